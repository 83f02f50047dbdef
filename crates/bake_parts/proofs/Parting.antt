-- Parts of the first version of a map.
use Rattle.std.proofs.Common.{◌≡◌, ℕ, suc, ◌+◌, ◌*◌, ◌<◌, ◌≤◌, List, [], ◌∷◌, length, take, drop, All, refl, sym, ap, subst, ◌∙◌, arith}
use Rattle.std.specs.List.{flat_map}
use Rattle.std.proofs.lemmas.List.{length-append, length-map, length-drop, length-take-le, take_at, drop_at}
use Rattle.std.proofs.lemmas.List.Elements.{All-drop, All-from_get_or, All-take}
use Rattle.run_pack.specs.declared.Run.{Run}
use Rattle.run_pack.specs.Runs.{word_of}
use Rattle.run_pack.proofs.RowLemmas.{length-row}
use Rattle.moves.specs.declared.Cell.{Cell}
use Rattle.row_store.specs.Rows.{AreRows}
use Rattle.row_store.specs.Comps.{IsComp}
use Rattle.versions.specs.Databases.{Versioned, comp_at}
use Rattle.bake_parts.specs.declared.sources.Sources.{Sources}
use Rattle.bake_parts.specs.Faults.{IsTooSmallFor}
use Rattle.bake_parts.specs.Parts.{IsFirstVersion, counted_row, counted_rows, part_of}
use Rattle.bake_parts.specs.Plans.{ArePlaces, IsComponentOf, IsMostFor, IsPartIn, Planned, PutsRows, WritesPart}

-- rows with few runs are few words
counted_short : (most : ℕ) (rows : List (List Run)) → All (λ row. length row ≤ most) rows → length (flat_map counted_row rows) ≤ length rows * (1 + most)
counted_short most [] short = omega arith
counted_short most (row ∷ rows) short =
    let rest = counted_short most rows (λ k d within. short (suc k) d (omega arith)) in
    let here : length row ≤ most = short 0 row (omega arith) in
    let both = length-append (counted_row row) (flat_map counted_row rows) in
    let own = length-map row word_of in
    omega arith

-- the words of a part, as they stand
pub part_is : (version : Versioned) (sources : Sources) → part_of version sources
    ≡ sources.component ∷ sources.first ∷ sources.count ∷ counted_rows (comp_at version.comps sources.component).rows sources.first sources.count
unfolding part_of
part_is version sources = refl

module _ (plan : Planned) (sources : Sources) (cells : List Cell) (is : IsComponentOf plan sources.component cells) (places : ArePlaces sources (length cells)) where
  module _ (version : Versioned) (first : IsFirstVersion plan.on plan.order version) where
    comp_whole : IsComp (comp_at version.comps sources.component)
    comp_whole = (first.is.database.each sources.component (is.kept version first).within).whole

    rows_are : AreRows cells (comp_at version.comps sources.component).rows
    rows_are = subst (λ cs. AreRows cs (comp_at version.comps sources.component).rows) (is.kept version first).are comp_whole.rows

    -- the rows that are put are those of the part
    part_put : (end : ℕ) (old new : List ℕ) (p : PutsRows cells sources sources.count end old new)
        → sources.component ∷ sources.first ∷ sources.count ∷ p.words ≡ part_of version sources
    part_put end old new p =
        ap (λ ws. sources.component ∷ sources.first ∷ sources.count ∷ ws) (p.rows (comp_at version.comps sources.component).rows rows_are) ∙ sym (part_is version sources)

    part_in : (words : List ℕ) → words ≡ part_of version sources → IsPartIn version sources words
    part_in words same =
        let kept = is.kept version first in
        let size = ap length kept.are in
        let inside = places.inside in
        record { has = record { component = kept.within; some = places.some; inside = omega arith }; is = same }

  pub most_words : IsMostFor plan sources (3 + sources.count * (1 + length cells))
  most_words version first =
      let rows = (comp_at version.comps sources.component).rows in
      let all = rows_are version first in
      let whole = all.whole in
      let inside = places.inside in
      let size = length-drop sources.first rows in
      let taken = length-take-le sources.count (drop sources.first rows) (omega arith) in
      let short : All (λ row. length row ≤ length cells) rows =
      All-from_get_or (λ row. length row ≤ length cells) rows []
      (λ place within. (let row = all.each place (omega arith) in let sets = row.first.whole in let few = length-row _ _ row.tight.row in omega arith)) in
      let few = counted_short (length cells) (take sources.count (drop sources.first rows))
      (All-take (λ row. length row ≤ length cells) sources.count (drop sources.first rows) (All-drop (λ row. length row ≤ length cells) sources.first rows short)) in
      let many = rw taken at few in
      let is_long = ap length (part_is version sources) in
      omega arith

  pub written : (end : ℕ) (old new : List ℕ) → PutsRows cells sources sources.count end old new → end ≤ length new → WritesPart plan sources old new end
  written end old new p fits =
      let words = sources.component ∷ sources.first ∷ sources.count ∷ p.words in
      let long = p.front.long in
      let size : length words ≡ end = (let e = p.end in omega arith) in
      let now = p.front.there (omega arith) in
      record {
        fits = omega arith;
        part = λ version first.
            part_in version first (take end new) (ap (take end) now ∙ take_at words (drop (length words) old) end size ∙ part_put version first end old new p);
        rest = ap (drop end) now ∙ drop_at words (drop (length words) old) end size ∙ ap (λ n. drop n old) size;
      }

  pub too_small : (end : ℕ) (old new : List ℕ) → PutsRows cells sources sources.count end old new → length new < end → IsTooSmallFor plan sources (length old) end
  too_small end old new p over = record {
    small = (let long = p.front.long in omega arith);
    needs = λ version first.
        (let size = ap length (part_put version first end old new p) in let e = p.end in omega arith);
  }
