-- Judging a text step by step: the first refusal is the answer.
use Rattle.std.specs.Prelude.{Bool, true, false, Option, Some, None, Result, Ok, Err}

-- one step after another; the first refusal is the answer
infixl 10 ◌>>=◌
abbrev pub ◌>>=◌ : {A B E : Type 0} → Result A E → (A → Result B E) → Result B E
(Ok x) >>= f = f x
(Err fault) >>= f = Err fault

-- the value that is there, or else the refusal
abbrev pub wanted : {A E : Type 0} → Option A → E → Result A E
wanted (Some x) fault = Ok x
wanted None fault = Err fault

-- the value where the test holds, or else the refusal
abbrev pub checked : {A E : Type 0} → Bool → A → E → Result A E
checked true x fault = Ok x
checked false x fault = Err fault
