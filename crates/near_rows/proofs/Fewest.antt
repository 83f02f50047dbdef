-- Near rows have the fewest runs for their widened sets, and so no more than the rows of the version.
use Rattle.std.proofs.Common.{◌≡◌, ℕ, suc, ◌+◌, ◌*◌, ◌<◌, ◌≤◌, List, [], ◌∷◌, length, slice_index, get_or, sym, subst, ◌∙◌, inl, inr, arith}
use Rattle.std.specs.List.{sum_by, All}
use Rattle.std.proofs.lemmas.List.Sums.{sum_by-cons, sum_by-le}
use Rattle.std.proofs.lemmas.Nat.{mul-le}
use Rattle.std.proofs.lemmas.List.Elements.{All-from_get_or}
use Rattle.moves.specs.declared.Cell.{Cell}
use Rattle.moves.specs.declared.TheConstants.{MAX_PASSABLE}
use Rattle.moves.specs.Maps.{Map}
use Rattle.moves.specs.MoveSets.{Has as HasMove}
use Rattle.moves.specs.FirstSetLists.{cell_of}
use Rattle.moves.proofs.MovesInSets.{move_with, Has-bit, Has-from_bit as HasMove-from_bit}
use Rattle.run_pack.specs.declared.Run.{Run}
use Rattle.run_pack.specs.Sets.{Has, IsCommon}
use Rattle.run_pack.specs.Runs.{Fits, IsRow, IsTight, end_at, start_at, move_at}
use Rattle.run_pack.proofs.Fewest.{Fits-from_tight, HasFewest-from_tight}
use Rattle.run_pack.proofs.SetLemmas.{Has-from_bit, bit_from_Has, Has-all}
use Rattle.run_pack.proofs.RowLemmas.{length-row, border-le}
use Rattle.cell_order.specs.declared.OrderKind.TheVariants.{Rows}
use Rattle.row_store.specs.Rows.{row_at, IsRowFrom}
use Rattle.row_store.proofs.RowLaws.{components_keep_rows}
use Rattle.versions.specs.Databases.{comp_at}
use Rattle.near_rows.specs.NearRows.{Nearby, AreNear, AreWidened, IsNearRow, NearRowsHaveFewestRuns, runs_in}
use Rattle.near_rows.specs.NearVersions.{NearVersioned, IsNearVersion, nearby_at, NearRunsAreAtMostTheVersions}
use Rattle.near_rows.proofs.Compasses.{square_or_not}
use Rattle.near_rows.proofs.NearWalking.{comp_whole, part_of_version}

pub near_rows_have_fewest_runs : NearRowsHaveFewestRuns
near_rows_have_fewest_runs map cells source radius row near = record {
  sets = near.sets;
  widened = near.widened;
  fits = Fits-from_tight row near.sets near.tight;
  fewest = (HasFewest-from_tight row near.sets near.tight).fewest;
}

-- a move that is in a first set is in the widened set
module _ (map : Map) (cells : List Cell) (source : Cell) (radius : ℕ) (row : List Run) (from : IsRowFrom map cells source row)
    (sets : List ℕ) (widened : AreWidened map source radius cells sets) where
  in_widened : (place move : ℕ) → place < length cells → move < 8 → Has (slice_index from.sets place) move → Has (slice_index sets place) move
  in_widened place move within number has =
      elim (square_or_not source radius (cell_of cells place)) [
        | inl square ↦ rw (widened.inside place within square) (Has-all move number)
        | inr out ↦
            let by = move_with move number in
            let bit = bit_from_Has _ _ has in
            let first = (from.first.each place within by.0).0 (HasMove-from_bit _ by.0 (rw by.1 bit)) in
            let there : HasMove (slice_index sets place) by.0 = (widened.outside place within out by.0).1 first in
            Has-from_bit _ _ (rw by.1 at (Has-bit _ by.0 there))
      ]

  -- a row that holds for the first sets holds for the widened ones
  fits_widened : Fits row sets
  fits_widened =
      let fits = Fits-from_tight row from.sets from.tight in
      let size : length from.sets ≡ length sets = from.first.whole ∙ sym widened.whole in
      record {
        row = subst (IsRow row) size fits.row;
        held = λ k inside.
            (let common = subst (λ n. IsCommon from.sets (start_at row k) (end_at row n k) (move_at row k)) size (fits.held k inside) in
            record {
              number = common.number;
              everywhere = λ place after before.
                  (let top = border-le row (length sets) (subst (IsRow row) size fits.row) (k + 1) in
                  let whole = widened.whole in
                  in_widened place (move_at row k) (omega arith) common.number (common.everywhere place after before));
            });
      }

  pub shorter : (near : List Run) → IsTight near sets → length near ≤ length row
  shorter near tight = (HasFewest-from_tight near sets tight).fewest row fits_widened

-- no near row is longer than there are cells
pub near_row_short : (map : Map) (cells : List Cell) (source : Cell) (radius : ℕ) (row : List Run) → IsNearRow map cells source radius row
    → length row ≤ length cells
near_row_short map cells source radius row near = let size = near.widened.whole in let short = length-row row (length near.sets) near.tight.row in omega arith

pub near_rows_few : (map : Map) (cells : List Cell) (nearby : Nearby) → AreNear map cells nearby → length cells ≤ MAX_PASSABLE
    → runs_in nearby ≤ MAX_PASSABLE * MAX_PASSABLE
near_rows_few map cells nearby near few =
    let each : All (λ row. length row ≤ MAX_PASSABLE) nearby.rows = All-from_get_or (λ row. length row ≤ MAX_PASSABLE) nearby.rows [] (λ k within.
    (let size = near.rows in
    let there : k < length cells = omega arith in
    let short = near_row_short map cells (cell_of cells k) (slice_index nearby.radii k) (row_at nearby.rows k) (near.each k there).row in
    omega arith)) in
    let all = sum_by-le length MAX_PASSABLE nearby.rows each in
    let size = near.rows in
    omega (arith, mul-le (length nearby.rows) MAX_PASSABLE MAX_PASSABLE MAX_PASSABLE)

-- a sum of terms that are no greater, place by place, is no greater
sum_le : {X Y : Type 0} (f : X → ℕ) (g : Y → ℕ) (xs : List X) (ys : List Y) (x : X) (y : Y) → length xs ≡ length ys
    → ((k : ℕ) → k < length xs → f (get_or xs k x) ≤ g (get_or ys k y)) → sum_by f xs ≤ sum_by g ys
sum_le f g [] [] x y same each = omega arith
sum_le f g [] (b ∷ ys) x y same each = absurd (omega arith)
sum_le f g (a ∷ xs) [] x y same each = absurd (omega arith)
sum_le f g (a ∷ xs) (b ∷ ys) x y same each =
    let first = each 0 (omega arith) in
    let rest = sum_le f g xs ys x y (omega arith) (λ k within. each (suc k) (omega arith)) in
    let left = sum_by-cons f a xs in
    let right = sum_by-cons g b ys in
    omega arith

pub near_runs_are_at_most_the_versions : NearRunsAreAtMostTheVersions
near_runs_are_at_most_the_versions near is =
    sum_le runs_in (λ comp. sum_by length comp.rows) near.nearby near.version.comps (record { radii = []; rows = [] }) (record { kind = Rows; cells = []; rows = [] })
    is.whole (λ label inside. in_comp label (let size = is.whole in omega arith))
  where
    in_comp : (label : ℕ) → label < length near.version.comps → runs_in (nearby_at near.nearby label) ≤ sum_by length (comp_at near.version.comps label).rows
    in_comp label within =
        let comp = comp_at near.version.comps label in
        let whole = comp_whole near.version is.is label within in
        let part = part_of_version near.version is.is label within in
        let nearby = is.each label within in
        let long = whole.rows.whole in
        let many = nearby.rows in
        sum_le length length (nearby_at near.nearby label).rows comp.rows [] [] (omega arith)
        (λ place inside.
        (let there : place < length comp.cells = omega arith in
        let row = (nearby.each place there).row in
        let from = components_keep_rows near.version.map part.component comp.cells comp.rows part.is part.order whole.rows place there in
        shorter near.version.map comp.cells (cell_of comp.cells place) (slice_index (nearby_at near.nearby label).radii place) (row_at comp.rows place) from row.sets row.widened
        (row_at (nearby_at near.nearby label).rows place) row.tight))

-- no near rows of a component have more runs than it has pairs of cells
pub all_few : (near : NearVersioned) → IsNearVersion near → All (λ nearby. runs_in nearby ≤ MAX_PASSABLE * MAX_PASSABLE) near.nearby
all_few near is = All-from_get_or (λ nearby. runs_in nearby ≤ MAX_PASSABLE * MAX_PASSABLE) near.nearby (record { radii = []; rows = [] }) (λ label inside.
    (let size = is.whole in
    let within : label < length near.version.comps = omega arith in
    near_rows_few near.version.map (comp_at near.version.comps label).cells (nearby_at near.nearby label) (is.each label within) (comp_whole near.version is.is label within).few))
