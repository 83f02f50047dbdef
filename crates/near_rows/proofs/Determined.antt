-- A version has one near version.
use Rattle.std.proofs.Common.{◌≡◌, ℕ, ◌<◌, List, [], length, slice_index, sym, ap, subst, ◌∙◌, inl, inr, arith}
use Rattle.std.proofs.lemmas.List.{same_lists, get_or_default}
use Rattle.std.proofs.lemmas.List.Elements.{All-get_or}
use Rattle.moves.specs.declared.Cell.{Cell}
use Rattle.moves.specs.Maps.{Map}
use Rattle.moves.specs.FirstSetLists.{cell_of}
use Rattle.moves.proofs.MovesInSets.{sets_by_moves}
use Rattle.run_pack.specs.declared.Run.{Run}
use Rattle.run_pack.specs.Runs.{IsTight}
use Rattle.run_pack.proofs.Fewest.{same_tight}
use Rattle.row_store.specs.Rows.{row_at}
use Rattle.versions.specs.Databases.{comp_at}
use Rattle.near_rows.specs.NearRows.{Nearby, AreNear, AreWidened, IsNearRow, IsNearRadius}
use Rattle.near_rows.specs.NearVersions.{NearVersioned, nearby_at, NearVersionsAreDetermined}
use Rattle.near_rows.proofs.Compasses.{square_or_not}

same_radius : (map : Map) (cells : List Cell) (source : Cell) (a b : ℕ) → IsNearRadius map cells source a → IsNearRadius map cells source b → a ≡ b
same_radius map cells source a b p q =
    let low = q.greatest a p.most p.right in
    let high = p.greatest b q.most q.right in
    omega arith

same_widened : (map : Map) (source : Cell) (radius : ℕ) (cells : List Cell) (s t : List ℕ) → AreWidened map source radius cells s
    → AreWidened map source radius cells t → s ≡ t
same_widened map source radius cells s t p q =
    same_lists s t (p.whole ∙ sym q.whole) (λ k d within.
    let size = p.whole in
    let other = q.whole in
    let there : k < length cells = omega arith in
    let inside : k < length t = omega arith in
    let same : slice_index s k ≡ slice_index t k = elim (square_or_not source radius (cell_of cells k)) [
      | inl square ↦ p.inside k there square ∙ sym (q.inside k there square)
      | inr out ↦
          sets_by_moves (slice_index s k) (slice_index t k) (All-get_or (λ x. x < 256) s k 0 within p.bytes) (All-get_or (λ x. x < 256) t k 0 inside q.bytes)
          (λ move. (
            λ has. (q.outside k there out move).1 ((p.outside k there out move).0 has),
            λ has. (p.outside k there out move).1 ((q.outside k there out move).0 has),
          ))
    ] in
    get_or_default s k d 0 within ∙ same ∙ sym (get_or_default t k d 0 inside))

same_near_row : (map : Map) (cells : List Cell) (source : Cell) (radius : ℕ) (r s : List Run) → IsNearRow map cells source radius r
    → IsNearRow map cells source radius s → r ≡ s
same_near_row map cells source radius r s p q =
    let sets = same_widened map source radius cells p.sets q.sets p.widened q.widened in
    same_tight r s q.sets (subst (IsTight r) sets p.tight) q.tight

same_nearby : (map : Map) (cells : List Cell) (a b : Nearby) → AreNear map cells a → AreNear map cells b → a ≡ b
same_nearby map cells a b p q = λ i. record { radii = radii i; rows = rows i }
  where
    radius_same : (k : ℕ) → k < length cells → slice_index a.radii k ≡ slice_index b.radii k
    radius_same k within = same_radius map cells (cell_of cells k) (slice_index a.radii k) (slice_index b.radii k) (p.each k within).radius (q.each k within).radius

    radii : a.radii ≡ b.radii
    radii = same_lists a.radii b.radii (p.radii ∙ sym q.radii) (λ k d within.
        let size = p.radii in
        let other = q.radii in
        let there : k < length b.radii = omega arith in
        get_or_default a.radii k d 0 within ∙ radius_same k (omega arith) ∙ sym (get_or_default b.radii k d 0 there))

    rows : a.rows ≡ b.rows
    rows = same_lists a.rows b.rows (p.rows ∙ sym q.rows) (λ k d within.
        let size = p.rows in
        let other = q.rows in
        let inside : k < length cells = omega arith in
        let there : k < length b.rows = omega arith in
        let row = subst (λ r. IsNearRow map cells (cell_of cells k) r (row_at a.rows k)) (radius_same k inside) (p.each k inside).row in
        get_or_default a.rows k d [] within
        ∙ same_near_row map cells (cell_of cells k) (slice_index b.radii k) (row_at a.rows k) (row_at b.rows k) row (q.each k inside).row
        ∙ sym (get_or_default b.rows k d [] there))

same_near_fields : (a b : NearVersioned) → a.version ≡ b.version → a.nearby ≡ b.nearby → a ≡ b
same_near_fields a b p q = λ i. record { version = p i; nearby = q i }

pub near_versions_are_determined : NearVersionsAreDetermined
near_versions_are_determined a b p q same =
    same_near_fields a b same
    (same_lists a.nearby b.nearby (p.whole ∙ ap (λ v. length v.comps) same ∙ sym q.whole) (λ k d within.
    let none : Nearby = record { radii = []; rows = [] } in
    let size = p.whole in
    let other = q.whole in
    let versions = ap (λ v. length v.comps) same in
    let inside : k < length a.version.comps = omega arith in
    let there : k < length b.nearby = omega arith in
    let beyond : k < length b.version.comps = omega arith in
    let its = subst (λ v. AreNear v.map (comp_at v.comps k).cells (nearby_at a.nearby k)) same (p.each k inside) in
    get_or_default a.nearby k d none within ∙ same_nearby b.version.map (comp_at b.version.comps k).cells (nearby_at a.nearby k) (nearby_at b.nearby k) its (q.each k beyond)
    ∙ sym (get_or_default b.nearby k d none there)))
