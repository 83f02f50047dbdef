-- A cell whose first sets to the cells of a ball stay, and whose costs to those at its border, keeps all first sets.
use Rattle.std.proofs.Common.{◌≡◌, ℕ, ◌<◌, Bool, List, length, slice_index, inl, inr, sym, ap, subst, ◌∙◌, arith}
use Rattle.std.proofs.lemmas.Bool.{false≢true}
use Rattle.std.specs.Prelude.{IsBitSet}
use Rattle.moves.specs.declared.Cell.{Cell}
use Rattle.moves.specs.declared.Move.{Move}
use Rattle.moves.specs.Maps.{Map}
use Rattle.moves.specs.Moves.{IsLegal}
use Rattle.moves.specs.ComponentLaws.{HasJust}
use Rattle.moves.specs.FirstSetLists.{cell_of}
use Rattle.kept_sources.specs.Parts.{HaveSameFirst, HaveSameCost}
use Rattle.kept_sources.specs.Balls.{IsBeside, IsRoundAll, AgreesOnBall}
use Rattle.kept_sources.proofs.Leaving.{balls_round_all_keep_sources}
use Rattle.lane_rows.specs.Tables.{edges_of, end_of, AreNear}
use Rattle.lane_rows.proofs.Exact.{place_of_one}
use Rattle.kept_rows.specs.Gaps.{IsPart}
use Rattle.kept_rows.specs.Targets.{ArePlaces, IsRoundGaps, AreMarked}
use Rattle.kept_rows.specs.Verdicts.{IsOpen}
use Rattle.kept_rows.proofs.Gaps.{is_part_of, taken_at_gap, part_stays}
use Rattle.kept_rows.proofs.Balls.{among, among-true, among-from}

-- where a legal move from a place leads
led : (map : Map) (cells : List Cell) (near : List (List ℕ)) → HasJust map cells → AreNear cells near → (place : ℕ) (move : Move) (to : Cell) → place < length cells → IsLegal map (cell_of cells place) move to
    → (end_of (edges_of near place) move < length cells) × (cell_of cells (end_of (edges_of near place) move) ≡ to)
led map cells near just edges place move to l legal =
    (edges.each place move l).legal to (record {
      target = legal.target;
      leaves = (just.just_these (cell_of cells place)).0 legal.leaves;
      enters = (just.just_these to).0 legal.enters.passable;
      corners = λ diagonal.
          let c = legal.corners diagonal in
          ((just.just_these _).0 c.0.passable, (just.just_these _).0 c.1.passable);
    })

module _ (whole part : List Cell) (gaps : List ℕ) (is : IsPart whole part gaps) (near : List (List ℕ)) (edges : AreNear part near)
    (ball : List ℕ) (places : ArePlaces part ball) (round : IsRoundGaps whole part gaps ball) (marks : ℕ) (marked : AreMarked near ball marks)
    (from costs : ℕ) (open_at : IsOpen whole part ball (length ball) from costs) (all : (index : ℕ) → IsBitSet marks index → IsBitSet costs index)
    (map other : Map) (just : HasJust map whole) (just_part : HasJust other part) where
  abbrev source : Cell
  source = cell_of part from

  abbrev target : ℕ → Cell
  target index = cell_of part (slice_index ball index)

  abbrev in_ball : Cell → Bool
  in_ball = among target (length ball)

  is_round : IsRoundAll map other in_ball
  is_round cell next taken free beside =
      let gap = taken_at_gap whole part gaps is map other just just_part cell taken in
      let at = place_of_one part next ((just_part.just_these next).0 free) in
      let one = (round.each gap.0 gap.1).beside at.0 at.1 (subst (IsBeside (cell_of whole (slice_index gaps gap.0))) (sym at.2) (subst (λ c. IsBeside c next) (sym gap.2) beside)) in
      among-from target (length ball) next one.index one.early (ap (cell_of part) one.is ∙ at.2)

  agrees : AgreesOnBall map other in_ball source
  agrees = record {
    first = λ to h free.
        let one = among-true target (length ball) to h in
        subst (HaveSameFirst map other source) one.2 ((open_at.first one.0 one.1).over map other just just_part);
    cost = λ to h out.
        let one = among-true target (length ball) to h in
        let end = led other part near just_part edges (slice_index ball one.0) out.0 out.1 (places.inside one.0 one.1) (subst (λ c. IsLegal other c out.0 out.1) (sym one.2) out.2) in
        let size = edges.whole in
        let bit : IsBitSet marks one.0 = elim (marked.out one.0 one.1) [
          | inr mark ↦ mark
          | inl stays ↦
              let back = stays.each out.0 (let e = end.0 in omega arith) in
              absurd (false≢true (sym out.3 ∙ among-from target (length ball) out.1 back.index back.early (ap (cell_of part) back.is ∙ end.1)))
        ] in
        subst (HaveSameCost map other source) one.2 ((open_at.cost one.0 (all one.0 bit)).1.over map other just just_part);
  }

  pub keeps_first : (to : ℕ) → to < length part → HaveSameFirst map other source (cell_of part to)
  keeps_first to l =
      (balls_round_all_keep_sources map other in_ball source (is_part_of whole part gaps is map other just just_part) is_round agrees).first (cell_of part to)
      (part_stays whole part gaps is map other just just_part to l)
