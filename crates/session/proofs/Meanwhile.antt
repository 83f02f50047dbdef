-- How histories grow while a pass calls, and between its calls.
use Rattle.std.proofs.Common.{◌≡◌, ℕ, List, [], ◌∷◌, ◌++◌, None, refl, sym, ap, ◌∙◌}
use Rattle.std.proofs.lemmas.List.{append-nil, append_assoc}
use Rattle.std.proofs.lemmas.List.Elements.{All-append, All-nil, All-push}
use Rattle.path_core.specs.declared.entry.Entry.{Entry}
use Rattle.path_core.specs.Passes.{pass_of, BeginsWith}
use Rattle.path_core.proofs.Passing.{begins_itself, begins_then, others_begin, others_none, others_then, own_begins}
use Rattle.session.specs.Standing.{AddsOnlyOwn, Enters, Meanwhile, Place}

-- ---- a while in which nothing of the pass's own was added

pub meanwhile_none : (place : Place) (seen : List Entry) → Meanwhile place seen seen
meanwhile_none place seen = record { others = others_none place.pass seen; alone = λ _. refl }

pub meanwhile_then : (place : Place) (old mid new : List Entry) → Meanwhile place old mid → Meanwhile place mid new → Meanwhile place old new
meanwhile_then place old mid new p q =
    record { others = others_then place.pass old mid new p.others q.others; alone = λ none. q.alone none ∙ p.alone none }

pub meanwhile_begin : (place : Place) (old new : List Entry) → Meanwhile place old new → BeginsWith new old
meanwhile_begin place old new p = others_begin place.pass old new p.others

pub enters_begin : (place : Place) (entry : Entry) (old new : List Entry) → Enters place entry old new → BeginsWith new old
enters_begin place entry old new p = own_begins place.pass entry old new (record { between = p.between; others = p.others.others; own = p.own })

-- ---- what was added by the pass alone

only_none : (pass : ℕ) (old new : List Entry) → new ≡ old → AddsOnlyOwn pass old new
only_none pass old new same = record { more = []; grown = same ∙ sym (append-nil old); own = All-nil (λ entry. pass_of entry ≡ pass) }

only_one : (pass : ℕ) (entry : Entry) (old between new : List Entry) → pass_of entry ≡ pass → between ≡ old → new ≡ between ++ entry ∷ []
    → AddsOnlyOwn pass old new
only_one pass entry old between new own same grown = record {
  more = entry ∷ [];
  grown = grown ∙ ap (λ l. l ++ entry ∷ []) same;
  own = All-push (λ e. pass_of e ≡ pass) [] entry (All-nil (λ e. pass_of e ≡ pass)) own;
}

only_then : (pass : ℕ) (old mid new : List Entry) → AddsOnlyOwn pass old mid → AddsOnlyOwn pass mid new → AddsOnlyOwn pass old new
only_then pass old mid new p q = record {
  more = p.more ++ q.more;
  grown = q.grown ∙ ap (λ l. l ++ q.more) p.grown ∙ append_assoc old p.more q.more;
  own = All-append (λ entry. pass_of entry ≡ pass) p.more q.more p.own q.own;
}

-- ---- histories that grow

-- the history goes on, on a board of one's own with entries of the pass alone
pub record Grows (place : Place) (old new : List Entry) : Type 0 where
  pub begins : BeginsWith new old
  pub own : place.shared ≡ None → AddsOnlyOwn place.pass old new

pub grows_itself : (place : Place) (seen : List Entry) → Grows place seen seen
grows_itself place seen = record { begins = begins_itself seen; own = λ _. only_none place.pass seen seen refl }

pub grows_then : (place : Place) (old mid new : List Entry) → Grows place old mid → Grows place mid new → Grows place old new
grows_then place old mid new p q = record {
  begins = begins_then old mid new p.begins q.begins;
  own = λ alone. only_then place.pass old mid new (p.own alone) (q.own alone);
}

pub meanwhile_grows : (place : Place) (old new : List Entry) → Meanwhile place old new → Grows place old new
meanwhile_grows place old new p =
    record { begins = meanwhile_begin place old new p; own = λ alone. only_none place.pass old new (p.alone alone) }

pub enters_grows : (place : Place) (entry : Entry) (old new : List Entry) → pass_of entry ≡ place.pass → Enters place entry old new → Grows place old new
enters_grows place entry old new own p = record {
  begins = enters_begin place entry old new p;
  own = λ alone. only_one place.pass entry old p.between new own (p.others.alone alone) p.own;
}
