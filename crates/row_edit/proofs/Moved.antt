-- Runs of a tight row, where the list has a place more or less.
use Rattle.std.proofs.Common.{◌≡◌, refl, ℕ, ◌+◌, ◌-◌, ◌<◌, ◌≤◌, ◌⊎◌, List, [], ◌∷◌, length, map, slice_index, All, arith, inl, inr, subst, sym}
use Rattle.std.proofs.lemmas.Bool.{cases_lt}
use Rattle.std.proofs.lemmas.List.Elements.{All-head, All-tail}
use Rattle.run_pack.specs.declared.Run.{Run}
use Rattle.run_pack.specs.Sets.{Has, IsCommon, IsLeastIn, ShareNone}
use Rattle.run_pack.proofs.RowLemmas.{border}
use Rattle.run_pack.proofs.Fewest.{IsCommon-part}
use Rattle.row_edit.proofs.TightRuns.{IsTightRun, AreTight, border_upto}
use Rattle.row_edit.proofs.Shorter.{IsShorter, common_same, common_back, common_forth, common_out, common_in}

-- no move that the sets from `last` to before the place have is in the set of the other list that stands there
abbrev pub IsCutAt : List ℕ → List ℕ → ℕ → ℕ → Type 0
IsCutAt xs ys last place = place < length ys → (other : ℕ) → IsCommon xs last place other → Has (slice_index ys place) other → ⊥

-- ---- before the place

module _ (xs ys : List ℕ) (place : ℕ) (same : (k : ℕ) → k < place → slice_index xs k ≡ slice_index ys k) (in_xs : place ≤ length xs) (in_ys : place ≤ length ys) where
  stays_before : (start end move : ℕ) → IsTightRun xs start end move → end ≤ place → (end ≡ place → IsCutAt xs ys start place) → IsTightRun ys start end move
  stays_before start end move run upto cut = record {
    covers = run.covers;
    within = omega arith;
    least = record {
      common = common_same xs ys start end move (λ k early. same k (omega arith)) run.least.common;
      least = λ other common.
          run.least.least other (common_same ys xs start end other (λ k early. sym (same k (omega arith))) common);
    };
    maximal = λ more other common.
        elim (cases_lt end place) [
          | inl before ↦
              run.maximal (omega arith) other (common_same ys xs start (end + 1) other (λ k early. sym (same k (omega arith))) common)
          | inr at ↦
              let here : end ≡ place = omega arith in
              let covers = run.covers in
              let part = IsCommon-part ys start (end + 1) start place other common (omega arith) (omega arith) in
              cut here (omega arith) other (common_same ys xs start place other (λ k early. sym (same k early)) part) (common.everywhere place (omega arith) (omega arith))
        ];
  }

  -- the runs before the place stay, the last of them if it's still cut where it ends at the place
  pub front_stays : (last : ℕ) (runs : List Run) (upto : ℕ) → AreTight xs runs upto → upto ≤ place → All (λ run. run.start ≤ last) runs
      → (upto ≡ place → 0 < length runs → IsCutAt xs ys last place) → AreTight ys runs upto
  front_stays last [] upto tight before starts cut = tt
  front_stays last (run ∷ runs) upto tight before starts cut =
      let end = border_upto xs runs upto tight.1 in
      let start = All-head (λ run. run.start ≤ last) run runs starts in (
        stays_before run.start (border runs upto 0) run.mv tight.0 (omega arith) (λ at inside other common.
            cut (omega arith) (omega arith) inside other (IsCommon-part xs run.start place last place other common start (omega arith))),
        front_stays last runs upto tight.1 before (All-tail (λ run. run.start ≤ last) run runs starts) (λ at some. cut at (omega arith)),
      )

-- ---- behind the place

-- a run that starts one place earlier, and one that starts one place later
abbrev pub earlier : Run → Run
earlier run = record { start = run.start - 1; mv = run.mv }

abbrev pub later : Run → Run
later run = record { start = run.start + 1; mv = run.mv }

pub border-earlier : (runs : List Run) (upto : ℕ) → border (map earlier runs) (upto - 1) 0 ≡ border runs upto 0 - 1
border-earlier [] upto = refl
border-earlier (run ∷ runs) upto = refl

pub border-later : (runs : List Run) (upto : ℕ) → border (map later runs) (upto + 1) 0 ≡ border runs upto 0 + 1
border-later [] upto = refl
border-later (run ∷ runs) upto = refl

module _ (longer shorter : List ℕ) (place : ℕ) (short : IsShorter longer shorter place) where
  moves_back : (start end move : ℕ) → IsTightRun longer start end move → place < start → IsTightRun shorter (start - 1) (end - 1) move
  moves_back start end move run late =
      let size = short.size in
      let covers = run.covers in
      let within = run.within in
      let from : start - 1 + 1 ≡ start = omega arith in
      let upto : end - 1 + 1 ≡ end = omega arith in
      record {
        covers = omega arith;
        within = omega arith;
        least = record {
          common = common_back longer shorter place short start end move late run.least.common;
          least = λ other common.
              run.least.least other (rw (from, upto) at (common_forth longer shorter place short (start - 1) (end - 1) other (omega arith) common));
        };
        maximal = λ more other common.
            run.maximal (omega arith) other (rw (from, upto) at (common_forth longer shorter place short (start - 1) (end - 1 + 1) other (omega arith) common));
      }

  moves_forth : (start end move : ℕ) → IsTightRun shorter start end move → place ≤ start → IsTightRun longer (start + 1) (end + 1) move
  moves_forth start end move run late =
      let size = short.size in
      let covers = run.covers in
      let within = run.within in
      let from : start + 1 - 1 ≡ start = omega arith in
      let upto : end + 1 - 1 ≡ end = omega arith in
      let after : end + 1 + 1 - 1 ≡ end + 1 = omega arith in
      record {
        covers = omega arith;
        within = omega arith;
        least = record {
          common = common_forth longer shorter place short start end move late run.least.common;
          least = λ other common.
              run.least.least other (rw (from, upto) at (common_back longer shorter place short (start + 1) (end + 1) other (omega arith) common));
        };
        maximal = λ more other common.
            run.maximal (omega arith) other (rw (after, from) at (common_back longer shorter place short (start + 1) (end + 1 + 1) other (omega arith) common));
      }

  pub back_moves : (runs : List Run) (upto : ℕ) → AreTight longer runs upto → place < border runs upto 0 → AreTight shorter (map earlier runs) (upto - 1)
  back_moves [] upto tight late = tt
  back_moves (run ∷ runs) upto tight late =
      let covers = tight.0.covers in (
        rw (border-earlier runs upto) (moves_back run.start (border runs upto 0) run.mv tight.0 late),
        back_moves runs upto tight.1 (omega arith),
      )

  pub back_moves_on : (runs : List Run) (upto : ℕ) → AreTight shorter runs upto → place ≤ border runs upto 0 → AreTight longer (map later runs) (upto + 1)
  back_moves_on [] upto tight late = tt
  back_moves_on (run ∷ runs) upto tight late =
      let covers = tight.0.covers in (
        rw (border-later runs upto) (moves_forth run.start (border runs upto 0) run.mv tight.0 late),
        back_moves_on runs upto tight.1 (omega arith),
      )

  -- ---- the run that has the place

  -- it stays without the place, where each move that becomes common is not below its own and not in the set behind it
  pub run_without : (start end move : ℕ) → IsTightRun longer start end move → start ≤ place → place < end → start + 1 < end
      → ((other : ℕ) → IsCommon shorter start (end - 1) other → (Has (slice_index longer place) other) ⊎ ((move ≤ other) × (end < length longer → Has (slice_index longer end) other → ⊥)))
      → IsTightRun shorter start (end - 1) move
  run_without start end move run from upto more either =
      let size = short.size in
      let within = run.within in
      let whole : end - 1 + 1 ≡ end = omega arith in
      let former : (other : ℕ) → Has (slice_index longer place) other → IsCommon shorter start (end - 1) other → IsCommon longer start end other = λ other has common.
      rw whole at (common_in longer shorter place short start (end - 1) other from (omega arith) has common) in
      record {
        covers = omega arith;
        within = omega arith;
        least = record {
          common = common_out longer shorter place short start end move from upto run.least.common;
          least = λ other common. elim (either other common) [
            | inl has ↦ run.least.least other (former other has common)
            | inr new ↦ new.0
          ];
        };
        maximal = λ inside other common.
            (let part = IsCommon-part shorter start (end - 1 + 1) start (end - 1) other common (omega arith) (omega arith) in
            let next : Has (slice_index shorter (end - 1)) other = common.everywhere (end - 1) (omega arith) (omega arith) in
            let read : slice_index longer (end - 1 + 1) ≡ slice_index shorter (end - 1) = short.behind (end - 1) (omega arith) in
            let behind : Has (slice_index longer end) other = subst (λ set. Has set other) (sym (rw whole at read)) next in
            elim (either other part) [
              | inl has ↦
                  let common' : IsCommon longer start (end - 1 + 1 + 1) other =
                  common_in longer shorter place short start (end - 1 + 1) other from (omega arith) has common in
                  run.maximal (omega arith) other (rw whole at common')
              | inr new ↦ new.1 (omega arith) behind
            ]);
      }

  -- it stays with the place, where the new set has its move
  pub run_with : (start end move : ℕ) → IsTightRun shorter start end move → start ≤ place → place ≤ end → Has (slice_index longer place) move → IsTightRun longer start (end + 1) move
  run_with start end move run from upto has =
      let size = short.size in
      let covers = run.covers in
      let within = run.within in
      let whole : end + 1 - 1 ≡ end = omega arith in
      let after : end + 1 + 1 - 1 ≡ end + 1 = omega arith in
      record {
        covers = omega arith;
        within = omega arith;
        least = record {
          common = common_in longer shorter place short start end move from upto has run.least.common;
          least = λ other common.
              run.least.least other (rw whole at (common_out longer shorter place short start (end + 1) other from (omega arith) common));
        };
        maximal = λ inside other common.
            run.maximal (omega arith) other (rw after at (common_out longer shorter place short start (end + 1 + 1) other from (omega arith) common));
      }

  -- the new place by itself
  pub run_alone : (move : ℕ) → IsLeastIn (slice_index longer place) move → (place + 1 < length longer → ShareNone (slice_index longer place) (slice_index longer (place + 1)))
      → IsTightRun longer place (place + 1) move
  run_alone move least apart = record {
    covers = omega arith;
    within = omega (arith, short.size, short.inside);
    least = record {
      common = record {
        number = least.number;
        everywhere = λ k a b. (let same : place ≡ k = omega arith in subst (λ at. Has (slice_index longer at) move) same least.member);
      };
      least = λ other common. least.least other (common.everywhere place (omega arith) (omega arith));
    };
    maximal = λ inside other common.
        apart inside other (common.everywhere place (omega arith) (omega arith)) (common.everywhere (place + 1) (omega arith) (omega arith));
  }
