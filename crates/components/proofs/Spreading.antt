-- One component gets its label: what the flood keeps while it goes on, and what it has reached at its end.
use Rattle.std.proofs.Common.{◌≡◌, ℕ, ◌<◌, ◌≤◌, ◌⊎◌, true, false, [], ◌∷◌, ◌++◌, length, get_or, set, refl, sym, ap, ◌∙◌, subst, inl, inr, arith}
use Rattle.std.proofs.lemmas.Bool.{cases_lt}
use Rattle.std.proofs.lemmas.List.{get_or-set_same, get_or-set_other}
use Rattle.components.specs.declared.TheConstants.{UNLABELLED}
use Rattle.moves.specs.declared.Cell.{Cell}
use Rattle.moves.specs.declared.Move.{Move}
use Rattle.moves.specs.declared.Move.TheVariants.{N, NE, E, SE, S, SW, W, NW}
use Rattle.moves.specs.Maps.{Map, IsInside, IsPassable, passable_of, place_of}
use Rattle.moves.specs.Moves.{IsLegal}
use Rattle.moves.specs.Paths.{Reaches}
use Rattle.moves.proofs.MoveLaws.{same_target}
use Rattle.moves.proofs.LawsOfPaths.{one_more}
use Rattle.components.specs.Marks.{Marks, label_at, with_mark}
use Rattle.components.specs.Floods.{IsFresh, IsBalanced, Claimed, IsSurrounded, IsSpread, IsFlooded}
use Rattle.components.proofs.Counts.{count_below-le, count_below-set_same}
use Rattle.components.proofs.Marking.{place_within, label_each, room_for, mark_at, mark_cases, balanced_mark}

-- no more cells are found than there is room for
pub count_within : (map : Map) (s : Marks) → IsBalanced map s → s.count ≤ length s.found
count_within map s b = omega (arith, b.count, b.room, count_below-le UNLABELLED s.labels (passable_of map) (label_each map s b) b.passable)

-- a labelled cell is passable
pub labelled_passable : (map : Map) (s : Marks) (c : Cell) → IsBalanced map s → IsInside map c → label_at map.width s c < UNLABELLED → IsPassable map c
labelled_passable map s c b inside low = record { inside = inside; passable = b.passable (place_of map.width c) (place_within map s c b.places inside) low }

-- the cell stands in the queue
abbrev pub IsWaiting : Marks → ℕ → Cell → Type 0
IsWaiting s next c = (i : ℕ) × (next ≤ i) × (i < s.count) × (get_or s.found i c ≡ c)

module _ (map : Map) (label : ℕ) (low : label < UNLABELLED) (root : Cell) (free : IsPassable map root) (old : Marks)
    (flooded : IsFlooded map label old) (unlabelled : label_at map.width old root ≡ UNLABELLED) where
  abbrev w : ℕ
  w = map.width

  -- the label is new
  pub label_is_new : (c : Cell) → IsInside map c → label_at w old c ≡ label → ⊥
  label_is_new c inside same =
      elim (flooded.known (place_of w c) (place_within map old c flooded.balanced.places inside)) [ inl below ↦ omega arith | inr none ↦ omega arith ]

  pub spread_start : IsSpread map label root old (with_mark w old root label)
  spread_start = record {
    balanced = balanced_mark map old root label flooded.balanced (record { passable = free; unlabelled = unlabelled }) low;
    begun = mark_at map old root label flooded.balanced.places free.inside;
    kept = λ c inside labelled.
        elim (mark_cases map old root label c free.inside inside) [
          | inl same ↦ absurd (let e = ap (label_at w old) same in omega arith)
          | inr other ↦ other
        ];
    fresh = λ c inside labelled.
        elim (mark_cases map old root label c free.inside inside) [
          | inl same ↦ inr (
            ap (label_at w old) same ∙ unlabelled,
            ap (label_at w (with_mark w old root label)) same ∙ mark_at map old root label flooded.balanced.places free.inside,
            subst (Reaches map root) (sym same) ([], (free, refl)),
          )
          | inr other ↦ inl (sym other)
        ];
    below = λ limit most. count_below-set_same limit old.labels (place_of w root) label (place_within map old root flooded.balanced.places free.inside) (omega arith) most;
    queue = λ i c from until.
        let at : i ≡ old.count = omega arith in
        let room = room_for map old root flooded.balanced (record { passable = free; unlabelled = unlabelled }) in
        let e : get_or (set old.found old.count root) i c ≡ root = ap (λ n. get_or (set old.found old.count root) n c) at ∙ get_or-set_same old.found old.count root c room in
        (subst (IsInside map) (sym e) free.inside, ap (label_at w (with_mark w old root label)) e ∙ mark_at map old root label flooded.balanced.places free.inside);
  }

  -- every cell with the label is reached from the root
  pub reached : (s : Marks) → IsSpread map label root old s → (c : Cell) → IsInside map c → label_at w s c ≡ label → Reaches map root c
  reached s p c inside same =
      elim (p.fresh c inside (omega arith)) [
        | inl was ↦ absurd (label_is_new c inside (was ∙ same))
        | inr new ↦ new.2
      ]

  module _ (s : Marks) (p : IsSpread map label root old s) where
    -- one more cell that is reached from the root
    pub spread_reached : (to : Cell) → Reaches map root to → IsFresh map s to → IsSpread map label root old (with_mark w s to label)
    spread_reached to way fresh =
        let t : Marks = with_mark w s to label in
        let here = mark_at map s to label p.balanced.places fresh.passable.inside in
        let room = room_for map s to p.balanced fresh in
        let was : label_at w old to ≡ UNLABELLED =
        elim (cases_lt (label_at w old to) UNLABELLED) [
          | inl lower ↦ absurd (let k = p.kept to fresh.passable.inside lower in let u = fresh.unlabelled in omega arith)
          | inr higher ↦ omega (arith, flooded.balanced.range (place_of w to))
        ] in
        let has_label : (d : Cell) → IsInside map d → label_at w s d ≡ label → label_at w t d ≡ label =
        λ d within has. elim (mark_cases map s to label d fresh.passable.inside within) [ inl same ↦ ap (label_at w t) same ∙ here | inr other ↦ other ∙ has ] in
        record {
          balanced = balanced_mark map s to label p.balanced fresh low;
          begun = has_label root free.inside p.begun;
          kept = λ c within lower.
              let k = p.kept c within lower in
              elim (mark_cases map s to label c fresh.passable.inside within) [
                | inl same ↦ absurd (let e = ap (label_at w s) same in let u = fresh.unlabelled in omega arith)
                | inr other ↦ other ∙ k
              ];
          fresh = λ c within lower.
              elim (mark_cases map s to label c fresh.passable.inside within) [
                | inl same ↦ inr (
                  ap (label_at w old) same ∙ was,
                  ap (label_at w t) same ∙ here,
                  subst (Reaches map root) (sym same) way,
                )
                | inr other ↦
                    elim (p.fresh c within (omega arith)) [
                      | inl before ↦ inl (before ∙ sym other)
                      | inr new ↦ inr (new.0, other ∙ new.1, new.2)
                    ]
              ];
          below = λ limit most.
              count_below-set_same limit s.labels (place_of w to) label (place_within map s to p.balanced.places fresh.passable.inside) (let u = fresh.unlabelled in omega arith) most
              ∙ p.below limit most;
          queue = λ i c least most.
              elim (cases_lt i s.count) [
                | inl earlier ↦
                    let e : get_or (set s.found s.count to) i c ≡ get_or s.found i c = get_or-set_other s.found s.count i to c (λ same. omega arith) in
                    let q = p.queue i c least earlier in
                    (subst (IsInside map) (sym e) q.0, ap (label_at w t) e ∙ has_label (get_or s.found i c) q.0 q.1)
                | inr later ↦
                    let at : i ≡ s.count = omega arith in
                    let e : get_or (set s.found s.count to) i c ≡ to = ap (λ n. get_or (set s.found s.count to) n c) at ∙ get_or-set_same s.found s.count to c room in
                    (subst (IsInside map) (sym e) fresh.passable.inside, ap (label_at w t) e ∙ here)
              ];
        }

  module _ (s : Marks) (p : IsSpread map label root old s) (from : Cell) (inside : IsInside map from) (labelled : label_at w s from ≡ label) where
    spread_mark : (by : Move) (to : Cell) → IsLegal map from by to → IsFresh map s to → IsSpread map label root old (with_mark w s to label)
    spread_mark by to legal fresh =
        let way = reached s p from inside labelled in
        spread_reached s p to (way.0 ++ by ∷ [], one_more map root from to way.0 by way.1 legal) fresh

    -- a claim keeps what the flood has reached
    pub claimed_spread : (by : Move) (t : Marks) → Claimed map label from by s t → IsSpread map label root old t
    claimed_spread by t claimed =
        elim claimed [
          | inl same ↦ subst (IsSpread map label root old) (sym same.0) p
          | inr new ↦ subst (IsSpread map label root old) (sym new.3) (spread_mark by new.0 new.1 new.2)
        ]

-- what a claim leaves of what was labelled
pub claimed_keeps : (map : Map) (label : ℕ) (from : Cell) (by : Move) (s t : Marks) → Claimed map label from by s t → (c : Cell)
    → IsInside map c → label_at map.width s c < UNLABELLED → label_at map.width t c ≡ label_at map.width s c
claimed_keeps map label from by s t claimed c inside lower =
    elim claimed [
      | inl same ↦ ap (λ m. label_at map.width m c) same.0
      | inr new ↦
          ap (λ m. label_at map.width m c) new.3
          ∙ elim (mark_cases map s new.0 label c new.2.passable.inside inside) [
            | inl at ↦ absurd (let e = ap (label_at map.width s) at in let u = new.2.unlabelled in omega arith)
            | inr other ↦ other
          ]
    ]

-- each cell with the label stands in the queue, is the one that is tried now, or has labelled cells beside it
pub record Tried (map : Map) (label : ℕ) (from : Cell) (next : ℕ) (s : Marks) : Type 0 where
  pub each : (c : Cell) → IsInside map c → label_at map.width s c ≡ label → IsWaiting s next c ⊎ ((c ≡ from) ⊎ IsSurrounded map s c)

-- the move from the cell was tried: its target has a label
abbrev pub IsTried : Map → Cell → Move → Marks → Type 0
IsTried map from by s = (to : Cell) → IsLegal map from by to → label_at map.width s to < UNLABELLED

module _ (map : Map) (label : ℕ) (low : label < UNLABELLED) (from : Cell) (by : Move) (s t : Marks) (balanced : IsBalanced map s) (claimed : Claimed map label from by s t) where
  pub surrounded_later : (c : Cell) → IsSurrounded map s c → IsSurrounded map t c
  surrounded_later c around = λ m to straight legal.
      let before = around m to straight legal in
      let e = claimed_keeps map label from by s t claimed to legal.enters.passable.inside before in
      omega arith

  pub tried_later : (m : Move) → IsTried map from m s → IsTried map from m t
  tried_later m tried = λ to legal.
      let before = tried to legal in
      let e = claimed_keeps map label from by s t claimed to legal.enters.passable.inside before in
      omega arith

  pub claimed_tries : IsTried map from by t
  claimed_tries = λ to legal.
      elim claimed [
        | inl same ↦ let e = ap (λ m. label_at map.width m to) same.0 in let h = same.1 to legal in omega arith
        | inr new ↦
            let at : to ≡ new.0 = same_target from by to new.0 legal.target new.1.target in
            let e : label_at map.width t to ≡ label =
            ap (λ m. label_at map.width m to) new.3
            ∙ (ap (label_at map.width (with_mark map.width s new.0 label)) at ∙ mark_at map s new.0 label balanced.places new.2.passable.inside) in
            omega arith
      ]

  pub claimed_tried : (next : ℕ) → next ≤ s.count → Tried map label from next s → Tried map label from next t
  claimed_tried next behind tried =
      elim claimed [
        | inl same ↦ subst (Tried map label from next) (sym same.0) tried
        | inr new ↦
            let room = room_for map s new.0 balanced new.2 in
            let m : Marks = with_mark map.width s new.0 label in
            let all : Tried map label from next m = record {
              each = λ c inside has.
                  elim (mark_cases map s new.0 label c new.2.passable.inside inside) [
                    | inl at ↦
                        inl (s.count, behind, omega arith, get_or-set_same s.found s.count new.0 c room ∙ sym at)
                    | inr other ↦
                        elim (tried.each c inside (sym other ∙ has)) [
                          | inl waits ↦ inl (waits.0, waits.1, omega arith, get_or-set_other s.found s.count waits.0 new.0 c (λ same. omega arith) ∙ waits.3)
                          | inr rest ↦
                              elim rest [
                                | inl at ↦ inr (inl at)
                                | inr around ↦
                                    inr (inr (λ move to straight legal.
                                    let before = around move to straight legal in
                                    elim (mark_cases map s new.0 label to new.2.passable.inside legal.enters.passable.inside) [
                                      | inl at ↦ let e = ap (label_at map.width m) at in let h = mark_at map s new.0 label balanced.places new.2.passable.inside in omega arith
                                      | inr same ↦ omega arith
                                    ]))
                              ]
                        ]
                  ];
            } in
            subst (Tried map label from next) (sym new.3) all
      ]

-- a cell whose four straight moves were tried
pub tried_all : (map : Map) (from : Cell) (s : Marks) → IsTried map from N s → IsTried map from E s → IsTried map from S s → IsTried map from W s → IsSurrounded map s from
tried_all map from s n e so we N to straight legal = n to legal
tried_all map from s n e so we NE to straight legal = absurd (let h : true ≡ false = straight in cc)
tried_all map from s n e so we E to straight legal = e to legal
tried_all map from s n e so we SE to straight legal = absurd (let h : true ≡ false = straight in cc)
tried_all map from s n e so we S to straight legal = so to legal
tried_all map from s n e so we SW to straight legal = absurd (let h : true ≡ false = straight in cc)
tried_all map from s n e so we W to straight legal = we to legal
tried_all map from s n e so we NW to straight legal = absurd (let h : true ≡ false = straight in cc)

-- what the flood's loop keeps
pub record IsSpreading (map : Map) (label : ℕ) (root : Cell) (old : Marks) (next : ℕ) (s : Marks) : Type 0 where
  pub spread : IsSpread map label root old s
  pub least : old.count ≤ next
  pub most : next ≤ s.count
  pub each : (c : Cell) → IsInside map c → label_at map.width s c ≡ label → IsWaiting s next c ⊎ IsSurrounded map s c
