-- The passable cells of a map, and the totals of the queries, one by one.
use Rattle.std.proofs.Common.{◌≡◌, ℕ, ◌+◌, ◌*◌, ◌<◌, Bool, true, false, cond, List, [], ◌∷◌, ◌++◌, length, get_or, map, Option, Some, None, refl, sym, ap, subst, ◌∙◌, inl, inr, true≢false, zero-add, arith}
use Rattle.std.specs.Prelude.{◌==◌}
use Rattle.std.specs.List.{filter, range_with_len}
use Rattle.std.proofs.lemmas.Bool.{cases_lt, cases_Bool, cond-true, cond-false}
use Rattle.std.proofs.lemmas.Nat.{mod_below}
use Rattle.std.proofs.lemmas.List.{map-append, append-nil, length-append, get_or_append_left}
use Rattle.std.proofs.Math.Seq.{get_or-append_seam}
use Rattle.std.proofs.lemmas.List.Elements.{filter-append, Contains-get_or}
use Rattle.std.proofs.lemmas.List.Sums.{sum_by_push}
use Rattle.rayon.specs.Shown.{run-append}
use Rattle.root_cost.specs.declared.Cost.{Cost}
use Rattle.moves.specs.declared.Cell.{Cell}
use Rattle.moves.specs.Maps.{Map, IsPassable, IsWithinLimits, cell_at, passable_cells, passable_of}
use Rattle.moves.proofs.RowMajor.{place_of_cell_at, row_inside, passable_cells_listed}
use Rattle.versions.specs.Databases.{Versioned}
use Rattle.versions.specs.Queries.{AreEnds}
use Rattle.versions.specs.Answers.{Answer, unreachable, path, IsAnswer}
use Rattle.scen_run.specs.declared.queries.TheConstants.{QUERIES}
use Rattle.scen_run.specs.declared.queries.QueryTotals.{QueryTotals}
use Rattle.scen_run.specs.MadeQueries.{queries_among, queries_on, cell_numbered, start_of, goal_of, AreQueryAnswers, AreTotals, AreQueryTotals, has_no_path, cost_in}
use Rattle.scen_run.specs.Inside.{IsWalkCost, IsFewSteps, IsWithinQueries, totals_with}

-- ---- the passable cells

abbrev is_free : Map → ℕ → Bool
is_free m place = get_or (passable_of m) place false

-- the passable cells before a place
abbrev pub cells_to : Map → ℕ → List Cell
cells_to m place = map (cell_at m.width) (filter (is_free m) (range_with_len 0 place))

range_more : (n : ℕ) → range_with_len 0 (n + 1) ≡ range_with_len 0 n ++ n ∷ []
range_more n = sym (run-append 0 n 1) ∙ ap (λ k. range_with_len 0 n ++ k ∷ []) (zero-add n)

module _ (m : Map) (place : ℕ) where
  abbrev before : List ℕ
  before = filter (is_free m) (range_with_len 0 place)

  one_more : cells_to m (place + 1) ≡ cells_to m place ++ map (cell_at m.width) (filter (is_free m) (place ∷ []))
  one_more =
      ap (λ ps. map (cell_at m.width) (filter (is_free m) ps)) (range_more place)
      ∙ ap (map (cell_at m.width)) (filter-append (is_free m) (range_with_len 0 place) (place ∷ []))
      ∙ map-append (cell_at m.width) before (filter (is_free m) (place ∷ []))

  one_if_free : is_free m place ≡ true → filter (is_free m) (place ∷ []) ≡ place ∷ []
  one_if_free free = rw (cond-true (is_free m place) (place ∷ []) [] free) refl

  none_if_blocked : is_free m place ≡ false → filter (is_free m) (place ∷ []) ≡ []
  none_if_blocked blocked = rw (cond-false (is_free m place) (place ∷ []) [] blocked) refl

  -- one passable cell more
  pub cells_more : IsPassable m (cell_at m.width place) → cells_to m (place + 1) ≡ cells_to m place ++ cell_at m.width place ∷ []
  cells_more passable =
      let free = subst (λ p. is_free m p ≡ true) (place_of_cell_at m.width place) passable.passable in
      one_more ∙ ap (λ ps. cells_to m place ++ map (cell_at m.width) ps) (one_if_free free)

  -- and none where the cell is blocked
  pub cells_same : IsWithinLimits m.width m.height → place < m.width * m.height → (IsPassable m (cell_at m.width place) → ⊥)
      → cells_to m (place + 1) ≡ cells_to m place
  cells_same limits inside blocked = elim (cases_Bool (is_free m place)) [
    | inl free ↦ absurd (blocked (record {
      inside = record {
        column = mod_below place m.width limits.some_columns;
        row = row_inside m.width m.height (cell_at m.width place) (subst (λ n. n < m.width * m.height) (sym (place_of_cell_at m.width place)) inside);
      };
      passable = subst (λ p. is_free m p ≡ true) (sym (place_of_cell_at m.width place)) free;
    }))
    | inr none ↦ one_more ∙ ap (λ ps. cells_to m place ++ map (cell_at m.width) ps) (none_if_blocked none) ∙ append-nil (cells_to m place)
  ]

-- where all places were seen
pub cells_all : (m : Map) → length m.terrain ≡ m.width * m.height → (place : ℕ) → place ≡ m.width * m.height → cells_to m place ≡ passable_cells m
cells_all m whole place end = ap (cells_to m) (end ∙ sym whole)

-- the same of a cell and a list that the code has
module _ (m : Map) (w h place : ℕ) (cells : List Cell) (same_w : w ≡ m.width) (same_h : h ≡ m.height) (are : cells ≡ cells_to m place) where
  all_places : w * h ≡ m.width * m.height
  all_places = ap (λ n. n * h) same_w ∙ ap (λ n. m.width * n) same_h

  module _ (cell : Cell) (cell-is : cell ≡ cell_at w place) where
    at : cell ≡ cell_at m.width place
    at = cell-is ∙ ap (λ n. cell_at n place) same_w

    pub next_passable : IsPassable m cell → cells ++ cell ∷ [] ≡ cells_to m (place + 1)
    next_passable passable =
        ap (λ cs. cs ++ cell ∷ []) are ∙ ap (λ c. cells_to m place ++ c ∷ []) at ∙ sym (cells_more m place (subst (IsPassable m) at passable))

    pub next_blocked : IsWithinLimits m.width m.height → place < w * h → (IsPassable m cell → ⊥) → cells ≡ cells_to m (place + 1)
    next_blocked limits inside blocked =
        let within : place < m.width * m.height = let p = all_places in omega arith in
        are ∙ sym (cells_same m place limits within (λ passable. blocked (subst (IsPassable m) (sym at) passable)))

  pub all_seen : length m.terrain ≡ m.width * m.height → place ≡ w * h → cells ≡ passable_cells m
  all_seen whole end = are ∙ cells_all m whole place (end ∙ all_places)

-- a numbered cell is passable
pub numbered_passable : (m : Map) → IsWithinLimits m.width m.height → length m.terrain ≡ m.width * m.height
    → 0 < length (passable_cells m) → (number : ℕ) → IsPassable m (cell_numbered m number)
numbered_passable m limits whole some number =
    ((passable_cells_listed m limits whole).just_these (cell_numbered m number)).0
    (Contains-get_or (passable_cells m) _ (record { x = 0; y = 0 }) (mod_below number (length (passable_cells m)) some))

-- the ends of a query are passable
pub ends_passable : (m : Map) (cells : List Cell) (grid : Map) (seed query : ℕ) (start goal : Cell) → grid ≡ m
    → IsWithinLimits grid.width grid.height → length grid.terrain ≡ grid.width * grid.height → cells ≡ passable_cells m → 0 < length cells
    → start ≡ start_of m seed query → goal ≡ goal_of m query → AreEnds m start goal
ends_passable m cells grid seed query start goal same limits whole are some start-is goal-is =
    let inside = subst (λ g. IsWithinLimits g.width g.height) same limits in
    let long = subst (λ g. length g.terrain ≡ g.width * g.height) same whole in
    let cell = subst (λ cs. 0 < length cs) are some in
    record {
      leaves = subst (IsPassable m) (sym start-is) (numbered_passable m inside long cell _);
      arrives = subst (IsPassable m) (sym goal-is) (numbered_passable m inside long cell _);
    }

-- ---- the totals

some_cell : (cells : List Cell) → (length cells == 0) ≡ false → 0 < length cells
some_cell [] none = absurd (true≢false none)
some_cell (cell ∷ cells) some = omega arith

-- where there are queries there are cells
pub some_among : (cells : List Cell) (query : ℕ) → query < queries_among cells → (0 < length cells) × (query < QUERIES)
some_among cells query less =
    elim (cases_Bool (length cells == 0)) [
      | inl none ↦ absurd (let l = subst (λ b. query < cond {A = ℕ} b 0 QUERIES) none less in omega arith)
      | inr some ↦ (some_cell cells some, subst (λ b. query < cond {A = ℕ} b 0 QUERIES) some less)
    ]

-- the totals of the first so many queries
pub record IsMeasuredTo (version : Versioned) (seed query : ℕ) (totals : QueryTotals) : Type 0 where
  pub answers : List Answer
  pub long : length answers ≡ query
  pub are : AreQueryAnswers version seed answers
  pub sums : AreTotals answers totals
  pub within : IsWithinQueries totals

pub measured_none : (version : Versioned) (seed : ℕ) → IsMeasuredTo version seed 0 (record { queries = 0; unreachable = 0; straight = 0; diagonal = 0 })
measured_none version seed = record {
  answers = [];
  long = refl;
  are = record { each = λ query less. absurd (omega arith) };
  sums = record { queries = refl; unreachable = refl; straight = refl; diagonal = refl };
  within = record { queries = omega arith; unreachable = omega arith; steps = omega arith };
}

module _ (version : Versioned) (seed query : ℕ) (totals : QueryTotals) (p : IsMeasuredTo version seed query totals) where
  long_more : (answer : Answer) → length (p.answers ++ answer ∷ []) ≡ query + 1
  long_more answer = let l = p.long in let m = length-append p.answers (answer ∷ []) in omega arith

  answers_more : (answer : Answer) → IsAnswer version (start_of version.map seed query) (goal_of version.map query) answer
      → AreQueryAnswers version seed (p.answers ++ answer ∷ [])
  answers_more answer is = record {
    each = λ q less. elim (cases_lt q (length p.answers)) [
      | inl earlier ↦ rw (get_or_append_left p.answers (answer ∷ []) unreachable q earlier) (p.are.each q earlier)
      | inr from ↦
          let long = long_more answer in
          let here : q ≡ query = (let l = p.long in omega arith) in
          let last : get_or (p.answers ++ answer ∷ []) q unreachable ≡ answer =
          ap (λ k. get_or (p.answers ++ answer ∷ []) k unreachable) (here ∙ sym p.long) ∙ get_or-append_seam p.answers answer [] unreachable in
          subst (λ k. IsAnswer version (start_of version.map seed k) (goal_of version.map k) (get_or (p.answers ++ answer ∷ []) q unreachable)) (sym here)
          (subst (IsAnswer version (start_of version.map seed query) (goal_of version.map query)) (sym last) is)
    ];
  }

  -- one query more
  pub measured_more : query < QUERIES → (cost : Option Cost)
      → IsWalkCost version (start_of version.map seed query) (goal_of version.map query) cost → IsFewSteps cost
      → IsMeasuredTo version seed (query + 1) (totals_with totals cost)
  measured_more less None is few =
      let long = p.long in
      let queries = p.sums.queries in
      let w = p.within in
      let none = sum_by_push (λ (a : Answer). cond {A = ℕ} (has_no_path a) 1 0) p.answers unreachable in
      let straight = sum_by_push (λ (a : Answer). (cost_in a).straight) p.answers unreachable in
      let diagonal = sum_by_push (λ (a : Answer). (cost_in a).diagonal) p.answers unreachable in
      record {
        answers = p.answers ++ unreachable ∷ [];
        long = long_more unreachable;
        are = answers_more unreachable is;
        sums = record {
          queries = (let more = long_more unreachable in omega arith);
          unreachable = omega (arith, none, p.sums.unreachable);
          straight = omega (arith, straight, p.sums.straight);
          diagonal = omega (arith, diagonal, p.sums.diagonal);
        };
        within = record { queries = omega arith; unreachable = omega (arith, w.unreachable); steps = omega (arith, w.steps) };
      }
  measured_more less (Some cost) is few =
      let long = p.long in
      let queries = p.sums.queries in
      let w = p.within in
      let answer = path is.moves in
      let none = sum_by_push (λ (a : Answer). cond {A = ℕ} (has_no_path a) 1 0) p.answers answer in
      let straight = sum_by_push (λ (a : Answer). (cost_in a).straight) p.answers answer in
      let diagonal = sum_by_push (λ (a : Answer). (cost_in a).diagonal) p.answers answer in
      record {
        answers = p.answers ++ answer ∷ [];
        long = long_more answer;
        are = answers_more answer is.answer;
        sums = record {
          queries = (let more = long_more answer in omega arith);
          unreachable = omega (arith, none, p.sums.unreachable);
          straight = omega (arith, straight, p.sums.straight, ap (λ (c : Cost). c.straight) is.costs);
          diagonal = omega (arith, diagonal, p.sums.diagonal, ap (λ (c : Cost). c.diagonal) is.costs);
        };
        within = record { queries = omega arith; unreachable = omega (arith, w.unreachable); steps = omega (arith, w.steps, few) };
      }

  -- all queries
  pub measured_all : query ≡ queries_on version.map → AreQueryTotals version seed totals
  measured_all end = record { answers = p.answers; whole = p.long ∙ end; are = p.are; sums = p.sums }
