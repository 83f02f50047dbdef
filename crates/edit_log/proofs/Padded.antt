-- Edits that are made.
use Rattle.std.proofs.Common.{◌≡◌, ◌≤◌, List, ◌++◌, length, replicate, take, drop, ap, sym, ◌∙◌}
use Rattle.std.proofs.lemmas.List.{drop-replicate}
use Rattle.std.proofs.Math.Seq.{take-append_seam}
use Rattle.edit_log.specs.declared.TheConstants.{MAX_CHANGES}
use Rattle.edit_log.specs.declared.edit.CellChange.{CellChange}
use Rattle.edit_log.specs.Padding.{IsPadded, no_change, padded}

-- changes written at the front of blank ones
pub is_padded : (changes front : List CellChange) → front ≡ changes → 1 ≤ length changes → length changes ≤ MAX_CHANGES
    → IsPadded (front ++ drop (length changes) (replicate MAX_CHANGES no_change)) (length changes)
is_padded changes front is some few =
    let blank : List CellChange = drop (length changes) (replicate MAX_CHANGES no_change) in
    let seen : take (length changes) (changes ++ blank) ≡ changes = take-append_seam changes blank in
    rw is (record {
      some = some;
      few = few;
      rest = ap (λ tail. changes ++ tail) (drop-replicate (length changes) MAX_CHANGES no_change) ∙ ap padded (sym seen);
    })
