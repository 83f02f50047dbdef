-- The flood over the seeds: what each component appends, and what the loop keeps.
use Rattle.std.proofs.Common.{◌≡◌, ℕ, zero, suc, ◌+◌, ◌-◌, ◌*◌, ◌<◌, ◌≤◌, Bool, eqb, List, [], ◌∷◌, ◌++◌, length, get_or, take, drop, refl, sym, ap, ◌∙◌, subst, inl, inr, arith, add-one, length-append}
use Rattle.std.specs.List.{filter, range_with_len}
use Rattle.std.proofs.lemmas.Bool.{cases_lt, cases_eq, eq-eqb, ne_eqb, cond-true, cond-false}
use Rattle.std.proofs.lemmas.List.{get_or_append_left, get_or_push, get_or_default, length_push, length-map, length-drop, take_all, take-append-le, drop-append-le}
use Rattle.std.proofs.Math.Seq.{drop-append_seam}
use Rattle.std.proofs.lemmas.List.Sums.{count_by_more_yes, count_by_more_no, count_by-le-length}
use Rattle.std.proofs.lemmas.List.Elements.{filter-append}
use Rattle.components.specs.declared.TheConstants.{UNLABELLED}
use Rattle.moves.specs.declared.Cell.{Cell}
use Rattle.moves.specs.Maps.{Map, IsWithinLimits, IsInside, is_passable, passable_of, place_of, cell_at}
use Rattle.moves.specs.Paths.{Reaches}
use Rattle.moves.proofs.StraightPaths.{kept_along}
use Rattle.moves.proofs.LawsOfPaths.{leads_from}
use Rattle.moves.proofs.RowMajor.{place_inside}
use Rattle.components.specs.Marks.{Marks, label_at, count_below}
use Rattle.components.specs.Floods.{IsFresh, IsSpread, IsFlooded, IsScanned}
use Rattle.components.specs.Groups.{cells_with, AreGrouped}
use Rattle.components.specs.Edits.{Plan, IsPlan}
use Rattle.components.proofs.Counts.{count_below-between, count_below-none}
use Rattle.components.proofs.Grouping.{count_same, count_below-next, range_more}
use Rattle.components.proofs.Listing.{its_label, has_label}
use Rattle.components.proofs.Spreading.{count_within}
use Rattle.components.proofs.Scanning.{scanned_skip, scanned_more}
use Rattle.components.proofs.SameLists.{listed, cells_with_rise}

-- ---- how many cells have a label

kept_length : (label : ℕ) (labels : List ℕ) (m : ℕ) → ℕ
kept_length label labels m = length (filter (λ q. eqb (get_or labels q 0) label) (range_with_len 0 m))

kept_length_more : (label : ℕ) (labels : List ℕ) (m : ℕ) → m < length labels
    → kept_length label labels m ≡ count_same label (take m labels)
    → kept_length label labels (m + 1) ≡ count_same label (take (m + 1) labels)
unfolding kept_length
kept_length_more label labels m less before =
    let test : ℕ → Bool = λ q. eqb (get_or labels q 0) label in
    let parts : length (filter test (range_with_len 0 (m + 1))) ≡ length (filter test (range_with_len 0 m)) + length (filter test (m ∷ [])) =
    ap (λ xs. length (filter test xs)) (range_more m) ∙ (ap length (filter-append test (range_with_len 0 m) (m ∷ [])) ∙ length-append (filter test (range_with_len 0 m)) (filter test (m ∷ []))) in
    elim (cases_eq (get_or labels m 0) label) [
      | inl same ↦
          let one : length (filter test (m ∷ [])) ≡ 1 = ap length (cond-true (test m) (m ∷ []) [] (eq-eqb (get_or labels m 0) label same)) in
          omega (arith, count_by_more_yes (λ x. eqb x label) labels m 0 less (eq-eqb (get_or labels m 0) label same))
      | inr other ↦
          let none : length (filter test (m ∷ [])) ≡ 0 = ap length (cond-false (test m) (m ∷ []) [] (ne_eqb (get_or labels m 0) label other)) in
          omega (arith, count_by_more_no (λ x. eqb x label) labels m 0 less (ne_eqb (get_or labels m 0) label other))
    ]

kept_length_upto : (label : ℕ) (labels : List ℕ) (m : ℕ) → m ≤ length labels → kept_length label labels m ≡ count_same label (take m labels)
unfolding kept_length
kept_length_upto label labels zero less = refl
kept_length_upto label labels (suc m) less =
    subst (λ n. kept_length label labels n ≡ count_same label (take n labels)) (add-one m) (kept_length_more label labels m (omega arith) (kept_length_upto label labels m (omega arith)))

length-cells_with : (width label : ℕ) (labels : List ℕ) → length (cells_with width labels label) ≡ count_same label labels
unfolding kept_length
length-cells_with width label labels =
    length-map (filter (λ q. eqb (get_or labels q 0) label) (range_with_len 0 (length labels))) (cell_at width)
    ∙ (kept_length_upto label labels (length labels) (omega arith) ∙ ap (count_same label) (take_all (length labels) labels (omega arith)))

-- ---- one component more

module _ (m : Map) (limits : IsWithinLimits m.width m.height) (number : ℕ) (low : number < UNLABELLED) (root : Cell) (s : Marks)
    (flooded : IsFlooded m number s) (t : Marks) (spread : IsSpread m number root s t) (after : IsFlooded m (number + 1) t) where
  -- as many cells more are found as the component has
  pub grown_count : t.count ≡ s.count + length (cells_with m.width t.labels number)
  grown_count =
      let below_t : count_below UNLABELLED t.labels ≡ count_below (number + 1) t.labels =
      count_below-between (number + 1) UNLABELLED t.labels (omega arith) (λ i within. elim (after.known i within) [ inl below ↦ inl below | inr none ↦ inr (omega arith) ]) in
      let below_s : count_below UNLABELLED s.labels ≡ count_below number s.labels =
      count_below-between number UNLABELLED s.labels (omega arith) (λ i within. elim (flooded.known i within) [ inl below ↦ inl below | inr none ↦ inr (omega arith) ]) in
      omega (arith, spread.balanced.count, flooded.balanced.count, count_below-next number t.labels, spread.below number (omega arith), length-cells_with m.width number t.labels)

  -- the cells of earlier labels stay
  pub cells_kept : (label : ℕ) → label < number → cells_with m.width s.labels label ≡ cells_with m.width t.labels label
  cells_kept label less =
      let its = its_label m.width m.height s.labels label in
      listed m limits t spread.balanced.places label (cells_with m.width s.labels label)
      (cells_with_rise m limits s flooded.balanced.places label)
      (λ c has.
      let h = its c limits.some_columns flooded.balanced.places has in
      let inside : IsInside m c = record { column = h.0; row = h.1 } in
      (inside, spread.kept c inside (let e = h.2 in omega arith) ∙ h.2))
      (λ c inside same.
      elim (spread.fresh c inside (omega arith)) [
        | inl was ↦ has_label m.width m.height s.labels label c limits.some_columns flooded.balanced.places inside.column inside.row (was ∙ same)
        | inr new ↦ absurd (let n = new.1 in omega arith)
      ])

-- the parts of a list that one more part is appended to
slice_kept : (xs ys : List Cell) (a b : ℕ) → a ≤ b → b ≤ length xs → take (b - a) (drop a (xs ++ ys)) ≡ take (b - a) (drop a xs)
slice_kept xs ys a b rising within =
    ap (take (b - a)) (drop-append-le a xs ys (omega arith)) ∙ take-append-le (b - a) (drop a xs) ys (let l = length-drop a xs in omega arith)

slice_last : (xs ys : List Cell) (a b : ℕ) → a ≡ length xs → b ≡ length (xs ++ ys) → take (b - a) (drop a (xs ++ ys)) ≡ ys
slice_last xs ys a b begin end =
    ap (take (b - a)) (ap (λ k. drop k (xs ++ ys)) begin ∙ drop-append_seam xs ys) ∙ take_all (b - a) ys (let l = length-append xs ys in omega arith)

module _ (width number : ℕ) (old new : List ℕ)
    (kept : (label : ℕ) → label < number → cells_with width old label ≡ cells_with width new label) (starts : List ℕ)
    (cells : List Cell) (p : AreGrouped width old starts cells)
    (size : length starts ≡ number + 1) (ends : get_or starts number 0 ≡ length cells) (more : List Cell)
    (more_is : more ≡ cells ++ cells_with width new number) (end : ℕ) (end_is : end ≡ length more) where
  start_kept : (label : ℕ) → label < number + 1 → get_or (starts ++ end ∷ []) label 0 ≡ get_or starts label 0
  start_kept label less = get_or_append_left starts (end ∷ []) 0 label (omega arith)

  last_start : (label : ℕ) → label ≡ number + 1 → get_or (starts ++ end ∷ []) label 0 ≡ end
  last_start label is = get_or_push starts end 0 label (omega arith)

  longer : length cells ≤ length more
  longer = let l = ap length more_is ∙ length-append cells (cells_with width new number) in omega arith

  pub grouped_more : AreGrouped width new (starts ++ end ∷ []) more
  grouped_more =
      let long = length_push starts end in
      let l = longer in
      record {
        rising = λ label less.
            elim (cases_lt label number) [
              | inl earlier ↦ let r = p.rising label (omega arith) in omega (arith, start_kept label (omega arith), start_kept (label + 1) (omega arith))
              | inr last ↦
                  let e : get_or starts label 0 ≡ length cells = ap (λ k. get_or starts k 0) (omega arith) ∙ ends in
                  omega (arith, start_kept label (omega arith), last_start (label + 1) (omega arith))
            ];
        within = λ label less.
            elim (cases_lt label (number + 1)) [
              | inl earlier ↦ let w = p.within label (omega arith) in omega (arith, start_kept label earlier)
              | inr last ↦ omega (arith, last_start label (omega arith))
            ];
        each = λ label less.
            elim (cases_lt label number) [
              | inl earlier ↦
                  let r = p.rising label (omega arith) in
                  let w = p.within (label + 1) (omega arith) in
                  rw (start_kept label (omega arith), start_kept (label + 1) (omega arith), more_is)
                  (slice_kept cells (cells_with width new number) (get_or starts label 0) (get_or starts (label + 1) 0) r w ∙ (p.each label (omega arith) ∙ kept label earlier))
              | inr last ↦
                  let at : label ≡ number = omega arith in
                  let begin : get_or starts label 0 ≡ length cells = ap (λ k. get_or starts k 0) at ∙ ends in
                  let here : take (end - get_or starts label 0) (drop (get_or starts label 0) (cells ++ cells_with width new number)) ≡ cells_with width new number =
                  slice_last cells (cells_with width new number) (get_or starts label 0) end begin (end_is ∙ ap length more_is) in
                  rw (start_kept label (omega arith), last_start (label + 1) (omega arith), more_is) (here ∙ ap (cells_with width new) (sym at))
            ];
      }

-- ---- the loop

-- The seeds before an index have been tried: all cells before the next place have been met, and the components that were
-- found are listed.
pub record IsRegrowing (m : Map) (plan : Plan) (i number : ℕ) (s : Marks) (starts : List ℕ) (cells : List Cell) : Type 0 where
  pub place : ℕ
  pub scanned : IsScanned m place number s
  pub most : place ≤ m.width * m.height
  pub behind : (k : ℕ) (d : Cell) → k < i → k < length plan.seeds → place_of m.width (get_or plan.seeds k d) < place
  pub ahead : (k : ℕ) (d : Cell) → i ≤ k → k < length plan.seeds → place ≤ place_of m.width (get_or plan.seeds k d)
  pub grouped : AreGrouped m.width s.labels starts cells
  pub size : length starts ≡ number + 1
  pub ends : get_or starts number 0 ≡ length cells
  pub count : length cells ≡ s.count

at_start : (m : Map) (plan : Plan) (s : Marks) → IsScanned m 0 0 s → IsRegrowing m plan 0 0 s (0 ∷ []) []
at_start m plan s scanned = record {
  place = 0;
  scanned = scanned;
  most = omega arith;
  behind = λ k d less within. absurd (omega arith);
  ahead = λ k d after within. omega arith;
  grouped = record {
    rising = λ label less. absurd (omega arith);
    within = λ label less. let none : 0 ≡ label = omega arith in subst (λ k. get_or (0 ∷ []) k 0 ≤ 0) none (omega arith);
    each = λ label less. absurd (omega arith);
  };
  size = omega arith;
  ends = omega arith;
  count = sym (scanned.flooded.balanced.count
      ∙ count_below-none UNLABELLED s.labels (λ i within. elim (scanned.flooded.known i within) [ inl below ↦ absurd (omega arith) | inr none ↦ omega arith ]));
}

pub regrowing_start : (m : Map) (plan : Plan) (s : Marks) → IsScanned m 0 0 s → (starts : List ℕ) (cells : List Cell) → starts ≡ 0 ∷ [] → cells ≡ [] → IsRegrowing m plan 0 0 s starts cells
regrowing_start m plan s scanned starts cells first none = rw (first, none) (at_start m plan s scanned)

module _ (m : Map) (limits : IsWithinLimits m.width m.height) (plan : Plan) (is : IsPlan m plan) (i number : ℕ) (s : Marks)
    (starts : List ℕ) (cells : List Cell) (p : IsRegrowing m plan i number s starts cells) where
  labelled_along : (a c : Cell) → Reaches m a c → label_at m.width s a < UNLABELLED → label_at m.width s c < UNLABELLED
  labelled_along a c reach labelled =
      kept_along m (λ d. label_at m.width s d < UNLABELLED) (λ x by y straight legal has. let e = p.scanned.flooded.closed x by y straight legal has in omega arith) a reach.0 c reach.1 labelled

  -- up to the next seed there is no cell that has not been met
  jump : (q : ℕ) → p.place ≤ q → ((k : ℕ) (d : Cell) → i ≤ k → k < length plan.seeds → q ≤ place_of m.width (get_or plan.seeds k d)) → IsScanned m q number s
  jump q later ahead = record {
    flooded = p.scanned.flooded;
    passed = λ c free before.
        let r = is.rooted c free in
        let has = r.1 in
        let at : place_of m.width (get_or plan.seeds has.0 r.0) ≡ place_of m.width r.0 = ap (place_of m.width) has.2 in
        labelled_along r.0 c r.2 (elim (cases_lt has.0 i) [
          | inl earlier ↦ let b = p.behind has.0 r.0 earlier has.1 in p.scanned.passed r.0 (leads_from m r.0 c r.2.0 r.2.1) (omega arith)
          | inr after ↦ absurd (let a = ahead has.0 r.0 after has.1 in let n = r.3 in omega arith)
        ]);
    rooted = λ label less. let r = p.scanned.rooted label less in (r.0, r.1, (let l = r.2 in omega arith), r.3);
    ordered = p.scanned.ordered;
    few = let f = p.scanned.few in omega arith;
  }

  pub regrown : i ≡ length plan.seeds → IsScanned m (m.width * m.height) number s
  regrown all = jump (m.width * m.height) p.most (λ k d after within. absurd (omega arith))

  module _ (seed : Cell) (within : i < length plan.seeds) (at : seed ≡ get_or plan.seeds i seed) where
    pub seed_inside : IsInside m seed
    seed_inside = subst (IsInside m) (sym at) (is.inside i seed within)

    seed_place : place_of m.width seed < m.width * m.height
    seed_place = place_inside m.width m.height seed seed_inside.column seed_inside.row

    seed_read : (d : Cell) → get_or plan.seeds i d ≡ seed
    seed_read d = get_or_default plan.seeds i d seed within ∙ sym at

    ahead_of : (k : ℕ) (d : Cell) → i < k → k < length plan.seeds → place_of m.width seed < place_of m.width (get_or plan.seeds k d)
    ahead_of k d later less = subst (λ c. place_of m.width c < place_of m.width (get_or plan.seeds k d)) (seed_read d) (is.in_order i k d later less)

    here : IsScanned m (place_of m.width seed) number s
    here =
        jump (place_of m.width seed) (subst (λ c. p.place ≤ place_of m.width c) (sym at) (p.ahead i seed (omega arith) within))
        (λ k d after less.
        elim (cases_lt i k) [
          | inl later ↦ let a = ahead_of k d later less in omega arith
          | inr now ↦
              let e : k ≡ i = omega arith in
              let same : place_of m.width (get_or plan.seeds k d) ≡ place_of m.width seed = ap (place_of m.width) (ap (λ n. get_or plan.seeds n d) e ∙ seed_read d) in
              omega arith
        ])

    pub few_labels : number < UNLABELLED
    few_labels = let f = here.few in let l = limits.cells in let n = seed_place in omega arith

    behind_next : (k : ℕ) (d : Cell) → k < i + 1 → k < length plan.seeds → place_of m.width (get_or plan.seeds k d) < place_of m.width seed + 1
    behind_next k d less inside =
        elim (cases_lt k i) [
          | inl earlier ↦
              let b = p.behind k d earlier inside in
              let a : p.place ≤ place_of m.width seed = subst (λ c. p.place ≤ place_of m.width c) (sym at) (p.ahead i seed (omega arith) within) in
              omega arith
          | inr now ↦
              let e : k ≡ i = omega arith in
              let same : place_of m.width (get_or plan.seeds k d) ≡ place_of m.width seed = ap (place_of m.width) (ap (λ n. get_or plan.seeds n d) e ∙ seed_read d) in
              omega arith
        ]

    ahead_next : (k : ℕ) (d : Cell) → i + 1 ≤ k → k < length plan.seeds → place_of m.width seed + 1 ≤ place_of m.width (get_or plan.seeds k d)
    ahead_next k d after less = let a = ahead_of k d (omega arith) less in omega arith

    pub regrowing_skip : (IsFresh m s seed → ⊥) → IsRegrowing m plan (i + 1) number s starts cells
    regrowing_skip stale = record {
      place = place_of m.width seed + 1;
      scanned = scanned_skip m (place_of m.width seed) number s here seed refl stale seed_inside.column;
      most = let n = seed_place in omega arith;
      behind = behind_next;
      ahead = ahead_next;
      grouped = p.grouped;
      size = p.size;
      ends = p.ends;
      count = p.count;
    }

    module _ (fresh : IsFresh m s seed) (t : Marks) (spread : IsSpread m number seed s t) (after : IsFlooded m (number + 1) t)
        (more : List Cell) (more_is : more ≡ cells ++ cells_with m.width t.labels number) where
      pub more_count : length more ≡ t.count
      more_count =
          let l = ap length more_is ∙ length-append cells (cells_with m.width t.labels number) in
          omega (arith, p.count, grown_count m limits number few_labels seed s p.scanned.flooded t spread after)

      pub few_cells : length more ≤ 1048576
      few_cells =
          let most = count_within m t spread.balanced in
          let l = limits.cells in
          omega (arith, more_count, spread.balanced.room, spread.balanced.whole, length-map m.terrain is_passable, count_by-le-length (λ b. b) (passable_of m))

      same_cells : (label : ℕ) → label < number → cells_with m.width s.labels label ≡ cells_with m.width t.labels label
      same_cells = cells_kept m limits number few_labels seed s p.scanned.flooded t spread after

      pub regrowing_more : (end : ℕ) → end ≡ length more → IsRegrowing m plan (i + 1) (number + 1) t (starts ++ end ∷ []) more
      regrowing_more end end_is = record {
        place = place_of m.width seed + 1;
        scanned = scanned_more m (place_of m.width seed) number s here seed refl few_labels t fresh spread after;
        most = let n = seed_place in omega arith;
        behind = behind_next;
        ahead = ahead_next;
        grouped = grouped_more m.width number s.labels t.labels same_cells starts cells p.grouped p.size p.ends more more_is end end_is;
        size = length_push starts end ∙ (let z = p.size in omega arith);
        ends = last_start m.width number s.labels t.labels same_cells starts cells p.grouped p.size p.ends more more_is end end_is
            (number + 1) refl ∙ end_is;
        count = more_count;
      }
