-- The flood's loop: its start, one turn, and what holds at its end.
use Rattle.std.proofs.Common.{◌≡◌, ℕ, ◌+◌, ◌<◌, ◌≤◌, ◌⊎◌, false, ◌++◌, length, get_or, refl, sym, ap, ◌∙◌, subst, inl, inr, arith}
use Rattle.std.proofs.lemmas.Bool.{cases_lt, cases_eq}
use Rattle.std.proofs.lemmas.List.{get_or-set_same, get_or_default}
use Rattle.components.specs.declared.TheConstants.{UNLABELLED}
use Rattle.moves.specs.declared.Cell.{Cell}
use Rattle.moves.specs.declared.Move.{Move}
use Rattle.moves.specs.declared.Move.TheVariants.{N, E, S, W}
use Rattle.moves.specs.Maps.{Map, IsInside, IsPassable, place_of, cell_at, terrain_of}
use Rattle.moves.specs.Moves.{is_diagonal, opposite, IsLegal}
use Rattle.moves.specs.Paths.{Reaches}
use Rattle.moves.specs.PathLaws.{back_along}
use Rattle.moves.proofs.MoveLaws.{legal_back, is_diagonal-opposite}
use Rattle.moves.proofs.LawsOfPaths.{joined, leads_back}
use Rattle.moves.proofs.StraightPaths.{kept_along}
use Rattle.moves.proofs.RowMajor.{place_of_cell_at, row_inside}
use Rattle.std.proofs.lemmas.Nat.{mod_below}
use Rattle.components.specs.Marks.{Marks, label_at, with_mark}
use Rattle.components.specs.Floods.{IsFresh, IsBalanced, Claimed, IsSurrounded, IsSpread, IsFlooded}
use Rattle.components.proofs.Marking.{room_for, mark_cases}
use Rattle.components.proofs.Spreading.{Tried, IsTried, IsSpreading, count_within, labelled_passable, label_is_new, spread_start, reached, claimed_spread, claimed_keeps, tried_later, claimed_tries, claimed_tried, tried_all}

-- a cell of the queue is inside and has the label
pub queued : (map : Map) (label : ℕ) (root : Cell) (old s : Marks) → IsSpread map label root old s → (i : ℕ) (from : Cell) → old.count ≤ i → i < s.count → from ≡ get_or s.found i from
    → IsInside map from × (label_at map.width s from ≡ label)
queued map label root old s p i from least most at =
    let q = p.queue i from least most in
    (subst (IsInside map) (sym at) q.0, ap (label_at map.width s) at ∙ q.1)

-- so it is passable
pub queued_passable : (map : Map) (label : ℕ) (root : Cell) (old : Marks) (next : ℕ) (s : Marks) (from : Cell) → label < UNLABELLED
    → IsSpreading map label root old next s → next < s.count → from ≡ get_or s.found next from → IsPassable map from
queued_passable map label root old next s from low p less at =
    let q = queued map label root old s p.spread next from p.least less at in
    labelled_passable map s from p.spread.balanced q.0 (omega arith)

pub claimed_count : (map : Map) (label : ℕ) (from : Cell) (by : Move) (s t : Marks) → Claimed map label from by s t → s.count ≤ t.count
claimed_count map label from by s t claimed =
    elim claimed [
      | inl same ↦ let e = ap (λ m. m.count) same.0 in omega arith
      | inr new ↦ let e = ap (λ m. m.count) new.3 in omega arith
    ]

module _ (map : Map) (label : ℕ) (low : label < UNLABELLED) (root : Cell) (old : Marks) (fresh : IsFresh map old root) (flooded : IsFlooded map label old) where
  pub spreading_start : IsSpreading map label root old old.count (with_mark map.width old root label)
  spreading_start = record {
    spread = spread_start map label low root fresh.passable old flooded fresh.unlabelled;
    least = omega arith;
    most = omega arith;
    each = λ c inside has.
        elim (mark_cases map old root label c fresh.passable.inside inside) [
          | inl same ↦ inl (old.count, omega arith, omega arith, get_or-set_same old.found old.count root c (room_for map old root flooded.balanced fresh) ∙ sym same)
          | inr other ↦ absurd (label_is_new map label low root fresh.passable old flooded fresh.unlabelled c inside (sym other ∙ has))
        ];
  }

  module _ (next : ℕ) (s : Marks) (p : IsSpreading map label root old next s) where
    -- a cell of the queue is of the root's class
    pub queued_class : (from : Cell) → next < s.count → from ≡ get_or s.found next from
        → terrain_of map from ≡ terrain_of map root
    queued_class from less at =
        let q = queued map label root old s p.spread next from p.least less at in
        let way = reached map label low root fresh.passable old flooded fresh.unlabelled s p.spread from q.0 q.1 in
        kept_along map (λ c. terrain_of map c ≡ terrain_of map root)
        (λ a by b straight legal same. legal.enters.same ∙ same) root way.0 from way.1 refl

    pub spreading_more : (from : Cell) → next < s.count → from ≡ get_or s.found next from → (t1 t2 t3 t4 : Marks)
        → Claimed map label from N s t1 → IsBalanced map t1 → Claimed map label from E t1 t2 → IsBalanced map t2
        → Claimed map label from S t2 t3 → IsBalanced map t3 → Claimed map label from W t3 t4
        → IsSpreading map label root old (next + 1) t4
    spreading_more from less at t1 t2 t3 t4 n b1 e b2 so b3 we =
        let q = queued map label root old s p.spread next from p.least less at in
        let kept = λ (a b : Marks) (by : Move) (claimed : Claimed map label from by a b) (has : label_at map.width a from ≡ label).
        let lower : label_at map.width a from < UNLABELLED = omega arith in claimed_keeps map label from by a b claimed from q.0 lower ∙ has in
        let h1 : label_at map.width t1 from ≡ label = kept s t1 N n q.1 in
        let h2 : label_at map.width t2 from ≡ label = kept t1 t2 E e h1 in
        let h3 : label_at map.width t3 from ≡ label = kept t2 t3 S so h2 in
        let grown = λ (a b : Marks) (by : Move) (claimed : Claimed map label from by a b) (has : label_at map.width a from ≡ label) (before : IsSpread map label root old a).
        claimed_spread map label low root fresh.passable old flooded fresh.unlabelled a before from q.0 has by b claimed in
        let p1 : IsSpread map label root old t1 = grown s t1 N n q.1 p.spread in
        let p2 : IsSpread map label root old t2 = grown t1 t2 E e h1 p1 in
        let p3 : IsSpread map label root old t3 = grown t2 t3 S so h2 p2 in
        let p4 : IsSpread map label root old t4 = grown t3 t4 W we h3 p3 in
        let first : Tried map label from (next + 1) s = record {
          each = λ c inside has.
              elim (p.each c inside has) [
                | inl waits ↦
                    elim (cases_eq waits.0 next) [
                      | inl now ↦
                          inr (inl (sym waits.3 ∙ (ap (λ k. get_or s.found k c) now ∙ (get_or_default s.found next c from (let k = count_within map s p.spread.balanced in omega arith) ∙ sym at))))
                      | inr later ↦ inl (waits.0, omega arith, waits.2, waits.3)
                    ]
                | inr around ↦ inr (inr around)
              ];
        } in
        let c1 = claimed_count map label from N s t1 n in
        let c2 = claimed_count map label from E t1 t2 e in
        let c3 = claimed_count map label from S t2 t3 so in
        let c4 = claimed_count map label from W t3 t4 we in
        let last : Tried map label from (next + 1) t4 =
        claimed_tried map label low from W t3 t4 b3 we (next + 1) (omega arith)
        (claimed_tried map label low from S t2 t3 b2 so (next + 1) (omega arith)
        (claimed_tried map label low from E t1 t2 b1 e (next + 1) (omega arith)
        (claimed_tried map label low from N s t1 p.spread.balanced n (next + 1) (omega arith) first))) in
        let n4 : IsTried map from N t4 =
        tried_later map label low from W t3 t4 b3 we N (tried_later map label low from S t2 t3 b2 so N
        (tried_later map label low from E t1 t2 b1 e N (claimed_tries map label low from N s t1 p.spread.balanced n))) in
        let e4 : IsTried map from E t4 =
        tried_later map label low from W t3 t4 b3 we E (tried_later map label low from S t2 t3 b2 so E (claimed_tries map label low from E t1 t2 b1 e)) in
        let s4 : IsTried map from S t4 = tried_later map label low from W t3 t4 b3 we S (claimed_tries map label low from S t2 t3 b2 so) in
        let w4 : IsTried map from W t4 = claimed_tries map label low from W t3 t4 b3 we in
        record {
          spread = p4;
          least = let l = p.least in omega arith;
          most = omega arith;
          each = λ c inside has.
              elim (last.each c inside has) [
                | inl waits ↦ inl waits
                | inr rest ↦
                    elim rest [
                      | inl same ↦ inr (subst (IsSurrounded map t4) (sym same) (tried_all map from t4 n4 e4 s4 w4))
                      | inr around ↦ inr around
                    ]
              ];
        }

    module _ (done : s.count ≤ next) where
      -- every cell with the label has labelled cells beside it
      all_surrounded : (c : Cell) → IsInside map c → label_at map.width s c ≡ label → IsSurrounded map s c
      all_surrounded c inside has = elim (p.each c inside has) [ inl waits ↦ absurd (omega arith) | inr around ↦ around ]

      label_stays : (from : Cell) (by : Move) (to : Cell) → is_diagonal by ≡ false → IsLegal map from by to
          → label_at map.width s from < UNLABELLED → label_at map.width s to ≡ label_at map.width s from
      label_stays from by to straight legal lower =
          elim (p.spread.fresh from legal.leaves.inside lower) [
            | inl was ↦
                let before : label_at map.width old to ≡ label_at map.width old from = flooded.closed from by to straight legal (omega arith) in
                p.spread.kept to legal.enters.passable.inside (omega arith) ∙ (before ∙ was)
            | inr new ↦
                elim (p.spread.fresh to legal.enters.passable.inside (all_surrounded from legal.leaves.inside new.1 by to straight legal)) [
                  | inl was ↦
                      let reached_now : label_at map.width s to < UNLABELLED = all_surrounded from legal.leaves.inside new.1 by to straight legal in
                      let back : label_at map.width old from ≡ label_at map.width old to =
                      flooded.closed to (opposite by) from (is_diagonal-opposite by ∙ straight) (legal_back map from by to legal) (omega arith) in
                      absurd (let none = new.0 in omega arith)
                  | inr also ↦ also.1 ∙ sym new.1
                ]
          ]

      reach_each_other : (a b : Cell) → IsInside map a → IsInside map b → label_at map.width s a < UNLABELLED → label_at map.width s b ≡ label_at map.width s a → Reaches map a b
      reach_each_other a b in_a in_b lower same =
          elim (p.spread.fresh a in_a lower) [
            | inl old_a ↦
                elim (p.spread.fresh b in_b (omega arith)) [
                  | inl old_b ↦ flooded.joined a b in_a in_b (omega arith) (old_b ∙ (same ∙ sym old_a))
                  | inr new_b ↦ absurd (label_is_new map label low root fresh.passable old flooded fresh.unlabelled a in_a (old_a ∙ (sym same ∙ new_b.1)))
                ]
            | inr new_a ↦
                elim (p.spread.fresh b in_b (omega arith)) [
                  | inl old_b ↦ absurd (label_is_new map label low root fresh.passable old flooded fresh.unlabelled b in_b (old_b ∙ (same ∙ new_a.1)))
                  | inr new_b ↦
                      (back_along new_a.2.0 ++ new_b.2.0, joined map a root b (back_along new_a.2.0) new_b.2.0 (leads_back map root a new_a.2.0 new_a.2.1) new_b.2.1)
                ]
          ]

      known_labels : (place : ℕ) → place < length s.labels → (get_or s.labels place 0 < label + 1) ⊎ (get_or s.labels place 0 ≡ UNLABELLED)
      known_labels place within =
          let c : Cell = cell_at map.width place in
          let at : place_of map.width c ≡ place = place_of_cell_at map.width place in
          let some : 0 < map.width = (let r = fresh.passable.inside.column in omega arith) in
          let size = p.spread.balanced.places in
          let inside : IsInside map c = record {
            column = mod_below place map.width some;
            row = row_inside map.width map.height c (omega arith);
          } in
          let e : label_at map.width s c ≡ get_or s.labels place 0 = ap (λ k. get_or s.labels k 0) at in
          elim (cases_lt (get_or s.labels place 0) UNLABELLED) [
            | inl lower ↦
                elim (p.spread.fresh c inside (omega arith)) [
                  | inl was ↦
                      let e' : label_at map.width old c ≡ get_or old.labels place 0 = ap (λ k. get_or old.labels k 0) at in
                      elim (flooded.known place (let o = flooded.balanced.places in omega arith)) [ inl below ↦ inl (omega arith) | inr none ↦ absurd (omega arith) ]
                  | inr new ↦ inl (let h = new.1 in omega arith)
                ]
            | inr higher ↦ inr (let r = p.spread.balanced.range place in omega arith)
          ]

      pub flooded_more : IsFlooded map (label + 1) s
      flooded_more = record {
        balanced = p.spread.balanced;
        known = known_labels;
        closed = label_stays;
        joined = reach_each_other;
      }
