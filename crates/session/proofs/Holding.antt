-- The version that is held, as the history grows.
use Rattle.std.proofs.Common.{◌≡◌, ◌⊎◌, ℕ, Bool, true, false, not, IsTrue, IsFalse, None, Option, Some, inl, inr, refl, sym, subst, ap, ◌∙◌, arith}
use Rattle.versions.specs.Databases.{Versioned}
use Rattle.path_core.specs.declared.board.Look.{Look}
use Rattle.path_core.specs.Histories.{published_prefix}
use Rattle.path_core.specs.Passes.{BeginsWith}
use Rattle.path_core.proofs.Passing.{begins_itself, begins_then}
use Rattle.session.specs.Answering.{Freshens}
use Rattle.session.specs.Desks.{AddsNone, IsCall, KeepsVersion, Looks}
use Rattle.session.specs.Standing.{AtDesk, HoldsSince, Meanwhile, Place, Raises, stands}
use Rattle.session.proofs.Meanwhile.{meanwhile_begin, meanwhile_then}

pub by_cases : {P : Type 0} (b : Bool) → (IsTrue b → P) → (IsFalse b → P) → P
by_cases true f g = f refl
by_cases false f g = g refl

pub not_true : (b : Bool) → IsTrue (not b) → IsFalse b
not_true true h = sym h
not_true false h = refl

-- looks that rise twice rise
pub raises_then : (before mid after : Option ℕ) → Raises before mid → Raises mid after → Raises before after
raises_then None mid after same more = subst (λ told. Raises told after) same more
raises_then (Some count) mid after (between, is, less) more =
    let then = subst (λ told. Raises told after) is more in
    (then.0, then.1, omega (arith, less, then.2))

-- a call that keeps the version is a call
pub call_kept : (old new : AtDesk) → KeepsVersion old new → IsCall old new
call_kept old new p = record { place = p.place; looks = p.looks }

-- a call and then another one
pub call_then : (old mid new : AtDesk) → IsCall old mid → IsCall mid new → IsCall old new
call_then old mid new p q =
    record { place = q.place ∙ p.place; looks = raises_then old.looks mid.looks new.looks p.looks q.looks }

-- the version is the same
pub holds_still : (old new : AtDesk) → new.version ≡ old.version → HoldsSince (stands old) (stands new)
holds_still old new e = inl (ap (λ (v : Versioned). v.prefix) e)

-- the version is the published one
pub holds_published : (old new : AtDesk) → BeginsWith new.seen old.seen → new.version.prefix ≡ published_prefix new.seen
    → HoldsSince (stands old) (stands new)
holds_published old new grown e = inr (record { at = new.seen; later = grown; earlier = begins_itself new.seen; is = e })

-- the version is still the same as more is seen
pub holds_later : (old mid new : AtDesk) → HoldsSince (stands old) (stands mid) → new.version ≡ mid.version → BeginsWith new.seen mid.seen
    → HoldsSince (stands old) (stands new)
holds_later old mid new h same grown = elim h [
  | inl e ↦ inl (ap (λ (v : Versioned). v.prefix) same ∙ e)
  | inr w ↦ inr (record {
    at = w.at;
    later = w.later;
    earlier = begins_then w.at mid.seen new.seen w.earlier grown;
    is = ap (λ (v : Versioned). v.prefix) same ∙ w.is;
  })
]

-- what is held after a publication: the version from before, or the one that was published
pub holds_either : (old mid new : AtDesk) (next : Versioned) → HoldsSince (stands old) (stands mid)
    → (new.version ≡ mid.version) ⊎ (new.version ≡ next) → BeginsWith new.seen mid.seen → BeginsWith new.seen old.seen
    → next.prefix ≡ published_prefix new.seen → HoldsSince (stands old) (stands new)
holds_either old mid new next h either grown whole published = elim either [
  | inl same ↦ holds_later old mid new h same grown
  | inr taken ↦ holds_published old new whole (ap (λ (v : Versioned). v.prefix) taken ∙ published)
]

-- what a look leaves known
pub look_freshens : (old mid new : AtDesk) (look : Look) → KeepsVersion old mid → AddsNone old mid → Looks mid new look
    → Freshens old look.held new
look_freshens old mid new look called first p =
    let then = subst (λ (place : Place). Meanwhile place mid.seen new.seen) called.place p.others in
    let others = meanwhile_then old.place old.seen mid.seen new.seen first then in
    let prefix : mid.version.prefix ≡ old.version.prefix = ap (λ (v : Versioned). v.prefix) called.version in
    record {
      others = others;
      holds = by_cases look.held
          (λ yes'. holds_published old new (meanwhile_begin old.place old.seen new.seen others) (ap (λ (v : Versioned). v.prefix) (p.held yes') ∙ p.is.after))
          (λ no'. holds_still old new ((p.kept no').0 ∙ called.version));
      published = λ yes'. ap (λ (v : Versioned). v.prefix) (p.held yes') ∙ p.is.after;
      newer = λ no'. (ap (λ (v : Versioned). v.prefix) ((p.kept no').0 ∙ called.version), rw (sym prefix) (p.kept no').1);
    }
