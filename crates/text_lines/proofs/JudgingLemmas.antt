-- Steps that did not refuse, and the first that did.
use Rattle.std.proofs.Common.{◌≡◌, Bool, true, false, Option, Some, None, Result, Ok, Err, ◌⊎◌, refl, ap, inl, inr}
use Rattle.text_lines.specs.Judging.{◌>>=◌, wanted, checked}

pub bind_ok : {A B E : Type 0} (r : Result A E) (f : A → Result B E) (y : B) → (r >>= f) ≡ Ok y → (x : A) × (r ≡ Ok x) × (f x ≡ Ok y)
bind_ok (Ok x) f y e = (x, refl, e)
bind_ok (Err d) f y e = absurd cc

pub bind_err : {A B E : Type 0} (r : Result A E) (f : A → Result B E) (d : E) → (r >>= f) ≡ Err d → (r ≡ Err d) ⊎ ((x : A) × (r ≡ Ok x) × (f x ≡ Err d))
bind_err (Ok x) f d e = inr (x, refl, e)
bind_err (Err c) f d e = inl (let same : c ≡ d = cc in ap (λ (z : _). Err z) same)

pub checked_ok : {A E : Type 0} (b : Bool) (x y : A) (fault : E) → checked b x fault ≡ Ok y → (b ≡ true) × (x ≡ y)
checked_ok true x y fault e = (refl, cc)
checked_ok false x y fault e = absurd cc

pub checked_err : {A E : Type 0} (b : Bool) (x : A) (fault d : E) → checked b x fault ≡ Err d → (b ≡ false) × (fault ≡ d)
checked_err true x fault d e = absurd cc
checked_err false x fault d e = (refl, cc)

pub wanted_ok : {A E : Type 0} (o : Option A) (y : A) (fault : E) → wanted o fault ≡ Ok y → o ≡ Some y
wanted_ok None y fault e = absurd cc
wanted_ok (Some x) y fault e = let same : x ≡ y = cc in ap (λ (z : _). Some z) same

pub wanted_err : {A E : Type 0} (o : Option A) (fault d : E) → wanted o fault ≡ Err d → (o ≡ None) × (fault ≡ d)
wanted_err None fault d e = (refl, cc)
wanted_err (Some x) fault d e = absurd cc
