-- The scan for fresh cells, row by row.
use Rattle.std.proofs.Common.{◌≡◌, ℕ, ◌+◌, ◌*◌, ◌<◌, ◌≤◌, List, [], ◌∷◌, ◌++◌, length, get_or, replicate, sym, ap, ◌∙◌, subst, inl, inr, arith}
use Rattle.std.specs.List.{count_by}
use Rattle.std.proofs.lemmas.Bool.{cases_lt}
use Rattle.std.proofs.lemmas.List.{get_or_append_left, get_or_push, length_push, length-replicate, get_or-replicate, get_or_past}
use Rattle.components.specs.declared.TheConstants.{UNLABELLED}
use Rattle.moves.specs.declared.Cell.{Cell}
use Rattle.moves.specs.Maps.{Map, IsInside, IsPassable, passable_of, place_of}
use Rattle.moves.proofs.RowMajor.{same_cell_from_place, place_inside}
use Rattle.components.specs.Marks.{Marks, label_at, count_below}
use Rattle.components.specs.Floods.{IsFresh, IsSpread, IsFlooded, IsScanned, AreStarts}
use Rattle.components.proofs.Counts.{count_below-between, count_below-none}
use Rattle.components.proofs.Spreading.{labelled_passable}

-- the cell at which the scan stands
pub record StandsAt (map : Map) (place : ℕ) (cell : Cell) : Type 0 where
  pub at : place_of map.width cell ≡ place
  pub column : cell.x < map.width

module _ (map : Map) (place number : ℕ) (s : Marks) (p : IsScanned map place number s) (cell : Cell) (at : place_of map.width cell ≡ place) where
  -- nothing new at this cell
  pub scanned_skip : (IsFresh map s cell → ⊥) → cell.x < map.width → IsScanned map (place + 1) number s
  scanned_skip stale column = record {
    flooded = p.flooded;
    passed = λ c passable before.
        elim (cases_lt (place_of map.width c) place) [
          | inl earlier ↦ p.passed c passable earlier
          | inr later ↦
              let same : c ≡ cell = same_cell_from_place map.width c cell passable.inside.column column (omega arith) in
              elim (cases_lt (label_at map.width s c) UNLABELLED) [
                | inl labelled ↦ labelled
                | inr none ↦
                    absurd (stale (record {
                      passable = subst (IsPassable map) same passable;
                      unlabelled = sym (ap (label_at map.width s) same) ∙ (let r = p.flooded.balanced.range (place_of map.width c) in omega arith);
                    }))
              ]
        ];
    rooted = λ label less. let r = p.rooted label less in (r.0, r.1, omega arith, r.3);
    ordered = p.ordered;
    few = let f = p.few in omega arith;
  }

  -- a component more
  module _ (low : number < UNLABELLED) (t : Marks) (fresh : IsFresh map s cell) (spread : IsSpread map number cell s t) (flooded : IsFlooded map (number + 1) t) where
    labelled_later : (c : Cell) → IsInside map c → label_at map.width s c < UNLABELLED → label_at map.width t c < UNLABELLED
    labelled_later c inside before = let k = spread.kept c inside before in omega arith

    pub scanned_more : IsScanned map (place + 1) (number + 1) t
    scanned_more = record {
      flooded = flooded;
      passed = λ c passable before.
          elim (cases_lt (place_of map.width c) place) [
            | inl earlier ↦ labelled_later c passable.inside (p.passed c passable earlier)
            | inr later ↦
                let same : c ≡ cell = same_cell_from_place map.width c cell passable.inside.column fresh.passable.inside.column (omega arith) in
                let e : label_at map.width t c ≡ number = ap (label_at map.width t) same ∙ spread.begun in
                let few = p.few in
                omega arith
          ];
      rooted = λ label less.
          elim (cases_lt label number) [
            | inl earlier ↦ let r = p.rooted label earlier in (r.0, r.1, omega arith, (spread.kept r.0 r.1 (omega arith) ∙ r.3))
            | inr last ↦ (cell, fresh.passable.inside, omega arith, spread.begun ∙ (omega arith))
          ];
      ordered = λ c label inside labelled less.
          elim (spread.fresh c inside labelled) [
            | inl was ↦
                let o = p.ordered c label inside (omega arith) (omega arith) in
                (o.0, o.1, o.2, (spread.kept o.0 o.1 (omega arith) ∙ o.3))
            | inr new ↦
                let r = p.rooted label (let n = new.1 in omega arith) in
                let later : place ≤ place_of map.width c =
                elim (cases_lt (place_of map.width c) place) [
                  | inl earlier ↦
                      absurd (let l = p.passed c (labelled_passable map t c spread.balanced inside labelled) earlier in let n = new.0 in omega arith)
                  | inr past ↦ past
                ] in
                (r.0, r.1, omega arith, (spread.kept r.0 r.1 (omega arith) ∙ r.3))
          ];
      few = let f = p.few in omega arith;
    }

-- nothing is labelled yet
pub scanned_start : (map : Map) (s : Marks) → length map.terrain ≡ map.width * map.height
    → s.labels ≡ replicate (map.width * map.height) UNLABELLED → length s.found ≡ count_by (λ b. b) (passable_of map) → s.count ≡ 0
    → IsScanned map 0 0 s
scanned_start map s whole labels room count =
    let size : length s.labels ≡ map.width * map.height = ap length labels ∙ length-replicate (map.width * map.height) UNLABELLED in
    let none : (place : ℕ) → place < length s.labels → get_or s.labels place 0 ≡ UNLABELLED =
    λ place less. ap (λ xs. get_or xs place 0) labels ∙ get_or-replicate (map.width * map.height) place UNLABELLED 0 (omega arith) in
    let at : (c : Cell) → IsInside map c → label_at map.width s c ≡ UNLABELLED =
    λ c inside. none (place_of map.width c) (let p = place_inside map.width map.height c inside.column inside.row in omega arith) in
    record {
      flooded = record {
        balanced = record {
          places = size;
          whole = whole;
          room = room;
          count = count ∙ sym (count_below-none UNLABELLED s.labels (λ i within. let n = none i within in omega arith));
          range = λ place.
              elim (cases_lt place (length s.labels)) [
                | inl within ↦ let n = none place within in omega arith
                | inr past ↦ let z = get_or_past s.labels place 0 past in omega arith
              ];
          passable = λ place within low. absurd (let n = none place within in omega arith);
        };
        known = λ place within. inr (none place within);
        closed = λ from by to straight legal low. absurd (let n = at from legal.leaves.inside in omega arith);
        joined = λ a b in_a in_b low same. absurd (let n = at a in_a in omega arith);
      };
      passed = λ c passable before. absurd (omega arith);
      rooted = λ label less. absurd (omega arith);
      ordered = λ c label inside low less. absurd (let n = at c inside in omega arith);
      few = omega arith;
    }

-- one component more begins where the cells found before end
pub starts_more : (map : Map) (number : ℕ) (cell : Cell) (s t : Marks) (starts : List ℕ) → number < UNLABELLED
    → AreStarts number s.labels starts → IsFlooded map number s → IsSpread map number cell s t
    → AreStarts (number + 1) t.labels (starts ++ s.count ∷ [])
starts_more map number cell s t starts low p flooded spread = record {
  size = length_push starts s.count ∙ (let z = p.size in omega arith);
  first = get_or_append_left starts (s.count ∷ []) 0 0 (let z = p.size in omega arith) ∙ p.first;
  each = λ label less.
      elim (cases_lt label number) [
        | inl earlier ↦
            get_or_append_left starts (s.count ∷ []) 0 (label + 1) (let z = p.size in omega arith)
            ∙ (p.each label earlier ∙ sym (spread.below label (omega arith)))
        | inr last ↦
            let at : label ≡ number = omega arith in
            let pushed : get_or (starts ++ s.count ∷ []) (label + 1) 0 ≡ s.count = get_or_push starts s.count 0 (label + 1) (let z = p.size in omega arith) in
            let counted : count_below UNLABELLED s.labels ≡ count_below number s.labels =
            count_below-between number UNLABELLED s.labels (omega arith)
            (λ i within. elim (flooded.known i within) [ inl below ↦ inl below | inr none ↦ inr (omega arith) ]) in
            let kept : count_below label t.labels ≡ count_below label s.labels = spread.below label (omega arith) in
            let e : count_below label s.labels ≡ count_below number s.labels = ap (λ n. count_below n s.labels) at in
            let b = spread.balanced in
            pushed ∙ (flooded.balanced.count ∙ (counted ∙ (sym e ∙ sym kept)))
      ];
}

-- what the scan's loop keeps
pub record IsScanning (map : Map) (place number : ℕ) (s : Marks) (starts : List ℕ) (cell : Cell) : Type 0 where
  pub scanned : IsScanned map place number s
  pub starts_are : AreStarts number s.labels starts
  pub stands : StandsAt map place cell

module _ (map : Map) (place number : ℕ) (s : Marks) (starts : List ℕ) (cell : Cell) (p : IsScanning map place number s starts cell)
    (next : Cell) (column : next.x < map.width) (beside : place_of map.width next ≡ place_of map.width cell + 1) where
  next_stands : StandsAt map (place + 1) next
  next_stands = record { at = beside ∙ ap (λ n. n + 1) p.stands.at; column = column }

  pub scanning_skip : (IsFresh map s cell → ⊥) → IsScanning map (place + 1) number s starts next
  scanning_skip stale =
      record { scanned = scanned_skip map place number s p.scanned cell p.stands.at stale p.stands.column; starts_are = p.starts_are; stands = next_stands }

  pub scanning_more : number < UNLABELLED → (t : Marks) → IsFresh map s cell → IsSpread map number cell s t → IsFlooded map (number + 1) t → (count : ℕ) → count ≡ s.count
      → IsScanning map (place + 1) (number + 1) t (starts ++ count ∷ []) next
  scanning_more low t fresh spread flooded count same =
      record {
        scanned = scanned_more map place number s p.scanned cell p.stands.at low t fresh spread flooded;
        starts_are = rw same (starts_more map number cell s t starts low p.starts_are p.scanned.flooded spread);
        stands = next_stands;
      }
