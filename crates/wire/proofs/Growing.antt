-- How told bytes grow, put after put.
use Rattle.std.proofs.Common.{◌≡◌, ℕ, ◌+◌, List, [], ◌++◌, length, take, drop, Option, Some, None, sym, ◌∙◌, ap, append_assoc, length-append, arith}
use Rattle.std.specs.Io.KnownBytes.{Appends, Keeps}
use Rattle.std.proofs.lemmas.List.{append-nil, take-append-le}
use Rattle.std.proofs.Math.Seq.{take-add, take-append-add}
use Rattle.wire.specs.Contents.{PutsPrefix}

-- nothing was put
pub appends_none : (held : Option (List ℕ)) → Appends held held []
appends_none (Some bytes) = sym (append-nil bytes)
appends_none None = tt

-- what grew and then stayed has grown
pub appends_kept : (before between after : Option (List ℕ)) (piece : List ℕ) → Appends before between piece → Keeps between after → Appends before after piece
appends_kept None between after piece p q = tt
appends_kept (Some x) None after piece p q = absurd p
appends_kept (Some x) (Some y) None piece p q = q
appends_kept (Some x) (Some y) (Some z) piece p q = q ∙ p

-- one piece after another is the two pieces joined
pub appends_joined : (before between after : Option (List ℕ)) (first second : List ℕ) → Appends before between first → Appends between after second → Appends before after (first ++ second)
appends_joined None between after first second p q = tt
appends_joined (Some x) None after first second p q = absurd p
appends_joined (Some x) (Some y) None first second p q = q
appends_joined (Some x) (Some y) (Some z) first second p q = q ∙ ap (λ bytes. bytes ++ second) p ∙ append_assoc x first second

-- the next part of a text follows what was put of it
pub appends_on : (before between after : Option (List ℕ)) (text : List ℕ) (done more : ℕ)
    → Appends before between (take done text) → Appends between after (take more (drop done text))
    → Appends before after (take (done + more) text)
appends_on before between after text done more p q =
    rw (take-add done more text) (appends_joined before between after _ _ p q)

-- what was told stays told
pub told_after : (before piece : List ℕ) (after : Option (List ℕ)) → Appends (Some before) after piece → after ≡ Some (before ++ piece)
told_after before piece (Some after) grown = ap Some grown
told_after before piece None grown = absurd grown

-- a first part of a text is one of a longer text
pub prefix_of_more : (before after : Option (List ℕ)) (text more : List ℕ) → PutsPrefix before after text → PutsPrefix before after (text ++ more)
prefix_of_more before after text more (count, within, grown) =
    (count, omega (arith, length-append text more), rw (take-append-le count text more (omega (arith, within))) grown)

-- a whole text and a first part of the next one are a first part of both
pub prefix_on : (before between after : Option (List ℕ)) (first second : List ℕ) → Appends before between first → PutsPrefix between after second → PutsPrefix before after (first ++ second)
prefix_on before between after first second whole (count, within, grown) =
    (length first + count, omega (arith, length-append first second), rw (take-append-add first second count) (appends_joined before between after first (take count second) whole grown))
