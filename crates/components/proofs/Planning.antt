-- The plan for an edit: its seeds root all passable cells, and what a loose seed reaches are seeds.
use Rattle.std.proofs.Common.{◌≡◌, ℕ, ◌<◌, ◌≤◌, ◌⊎◌, Bool, false, List, [], length, get_or, refl, sym, ap, ◌∙◌, subst, inl, inr, arith}
use Rattle.std.specs.List.{AllPairs, Contains}
use Rattle.std.proofs.lemmas.Bool.{cases_lt, cases_Bool}
use Rattle.std.proofs.lemmas.List.Elements.{All-contains, Contains-get_or}
use Rattle.std.proofs.lemmas.List.{get_or_default}
use Rattle.std.specs.List.Sorted.{IsPermutation}
use Rattle.std.proofs.lemmas.List.Sorted.{Contains-permutation, All-permutation}
use Rattle.moves.specs.declared.Cell.{Cell}
use Rattle.moves.specs.declared.Move.{Move}
use Rattle.moves.specs.Maps.{Map, IsWithinLimits, IsInside, IsPassable, ComesBefore, place_of, terrain_of}
use Rattle.moves.specs.Moves.{is_diagonal, IsLegal}
use Rattle.moves.specs.Paths.{Reaches}
use Rattle.moves.specs.Components.{first_of, IsComponentList}
use Rattle.moves.proofs.LawsOfPaths.{leads_from, leads_to}
use Rattle.moves.proofs.StraightPaths.{kept_along}
use Rattle.moves.proofs.ComponentLaws.{member_is_passable}
use Rattle.components.specs.Groups.{IsLabelOf}
use Rattle.components.specs.Edits.{HaveSameSides, AreChanged, IsTouched, AreTouched, Plan, IsLoose, IsPlan, rank_of, AreRanks, AreFormerRanks, AreCellsOf}
use Rattle.components.proofs.Alike.{sides_back, inside_too, passable_too, changed_or_same}
use Rattle.components.proofs.SameLists.{place_rises}
use Rattle.components.proofs.Labelled.{its_component}
use Rattle.components.proofs.Ranking.{same_rank}
use Rattle.components.proofs.Keeping.{stays, beside_touched, kept_component}

-- the ranks of the first cells of untouched components and of all cells of the touched ones are there
pub record HasFormerRanks (components : List (List Cell)) (touched : List Bool) (ranks : List ℕ) : Type 0 where
  pub of_kept : (label : ℕ) → label < length components → get_or touched label false ≡ false → Contains ranks (rank_of (first_of (get_or components label [])))
  pub of_touched : (label : ℕ) (cell : Cell) → label < length components → IsTouched touched label → Contains (get_or components label []) cell → Contains ranks (rank_of cell)

-- a smaller rank is an earlier cell
rank_rises : (a b : Cell) → a.x < 65536 → b.x < 65536 → rank_of a < rank_of b → ComesBefore a b
rank_rises a b p q less = elim (cases_lt a.y b.y) [ inl up ↦ inl up | inr down ↦ inr (omega arith, omega arith) ]

-- the first cell of a list in order is not after any other
first_not_after : (w : ℕ) (cells : List Cell) → AllPairs ComesBefore cells → (c : Cell) → Contains cells c → ((d : Cell) → Contains cells d → d.x < w) → place_of w (first_of cells) ≤ place_of w c
first_not_after w cells p c has inside =
    let f : Cell = first_of cells in
    let less = has.1 in
    let first : Contains cells (first_of cells) = Contains-get_or cells 0 (record { x = 0; y = 0 }) (omega arith) in
    elim (cases_lt 0 has.0) [
      | inl later ↦
          let before : ComesBefore (get_or cells 0 c) (get_or cells has.0 c) = p 0 has.0 c later less in
          let e : get_or cells 0 c ≡ first_of cells = get_or_default cells 0 c (record { x = 0; y = 0 }) (omega arith) in
          let b : ComesBefore (first_of cells) c = subst (λ z. ComesBefore z c) e (subst (ComesBefore (get_or cells 0 c)) has.2 before) in
          let r = place_rises w (first_of cells) c (inside (first_of cells) first) b in
          omega arith
      | inr now ↦
          let k : has.0 ≡ 0 = omega arith in
          let e : first_of cells ≡ c = get_or_default cells 0 (record { x = 0; y = 0 }) c (omega arith) ∙ (ap (λ i. get_or cells i c) (sym k) ∙ has.2) in
          let same : place_of w (first_of cells) ≡ place_of w c = ap (place_of w) e in
          omega arith
    ]

module _ (old new : Map) (limits : IsWithinLimits new.width new.height) (sides : HaveSameSides old new) (components : List (List Cell))
    (list : IsComponentList old components) (changed : List Cell) (are : AreChanged old new changed)
    (touched : List Bool) (t : AreTouched new components changed touched) (ranks : List ℕ) (former : HasFormerRanks components touched ranks)
    (passable : (c : Cell) → Contains changed c → IsPassable new c → Contains ranks (rank_of c)) (known : AreRanks new ranks) (seeds : List Cell) (p : AreCellsOf ranks seeds) where
  abbrev pub plan : Plan
  plan = record { components = components; touched = touched; seeds = seeds }

  low_column : (c : Cell) → IsInside new c → c.x < 65536
  low_column c inside = let l = limits.columns in let h = inside.column in omega arith

  seed_inside : (c : Cell) → Contains seeds c → IsInside new c
  seed_inside c has =
      let k = All-contains (λ rank. (cell : Cell) × IsInside new cell × (rank ≡ rank_of cell)) ranks (rank_of c) known (p.each c has) in
      let same : c ≡ k.0 = same_rank c k.0 (All-contains (λ z. z.x < 65536) seeds c p.small has) (low_column k.0 k.1) k.2 in
      subst (IsInside new) (sym same) k.1

  seed_if : (c : Cell) → IsInside new c → Contains ranks (rank_of c) → Contains seeds c
  seed_if c inside has = p.every c (low_column c inside) has

  itself : (c : Cell) → IsPassable new c → Reaches new c c
  itself c free = ([], (free, refl))

  seeds_rise : AllPairs (λ a b. place_of new.width a < place_of new.width b) seeds
  seeds_rise = λ i j d less within.
      let a = seed_inside (get_or seeds i d) (Contains-get_or seeds i d (omega arith)) in
      let b = seed_inside (get_or seeds j d) (Contains-get_or seeds j d within) in
      place_rises new.width (get_or seeds i d) (get_or seeds j d) a.column
      (rank_rises (get_or seeds i d) (get_or seeds j d) (low_column (get_or seeds i d) a) (low_column (get_or seeds j d) b) (p.in_order i j d less within))

  abbrev IsRooted : Cell → Type 0
  IsRooted cell = (seed : Cell) × Contains seeds seed × Reaches new seed cell × (place_of new.width seed ≤ place_of new.width cell)

  root_of_member : (label : ℕ) → label < length components → (c : Cell) → Contains (get_or components label []) c → IsPassable new c → IsRooted c
  root_of_member label low c has free =
      elim (cases_Bool (get_or touched label false)) [
        | inl is ↦ (c, seed_if c free.inside (former.of_touched label c low is has), itself c free, omega arith)
        | inr not ↦
            let component = kept_component old new sides components list changed are touched t label low not in
            let first : Contains (get_or components label []) (first_of (get_or components label [])) =
            Contains-get_or (get_or components label []) 0 (record { x = 0; y = 0 }) component.some in
            let inside = λ (d : Cell) (h : Contains (get_or components label []) d). (All-contains (IsPassable new) (get_or components label []) d component.passable h).inside in (
              first_of (get_or components label []),
              seed_if (first_of (get_or components label [])) (inside (first_of (get_or components label [])) first) (former.of_kept label low not),
              (component.whole (first_of (get_or components label [])) c first).0 has,
              first_not_after new.width (get_or components label []) component.in_order c has (λ d h. (inside d h).column),
            )
      ]

  -- the component that a passable cell was in, if the same stood there
  was_in : (c : Cell) → IsPassable new c → terrain_of new c ≡ terrain_of old c
      → (label : ℕ) × IsLabelOf components c label
  was_in c free same =
      its_component old components list c (passable_too new old (sides_back old new sides) c (sym same) free)

  root_of : (c : Cell) → IsPassable new c → IsRooted c
  root_of c free =
      elim (changed_or_same old new sides changed are c free.inside) [
        | inl change ↦ (c, seed_if c free.inside (passable c change free), itself c free, omega arith)
        | inr same ↦ let l = was_in c free same in root_of_member l.0 l.1.below c l.1.has free
      ]

  -- the cell was changed, or is in a component that the edit touches
  abbrev IsNear : Cell → Type 0
  IsNear c = Contains changed c ⊎ ((label : ℕ) × IsLabelOf components c label × IsTouched touched label)

  near_step : (a : Cell) (by : Move) (b : Cell) → is_diagonal by ≡ false → IsLegal new a by b → IsNear a → IsNear b
  near_step a by b straight legal near =
      elim (changed_or_same old new sides changed are b legal.enters.passable.inside) [
        | inl change ↦ inl change
        | inr same ↦
            let l = was_in b legal.enters.passable same in
            let by_change = λ (change : Contains changed a). beside_touched old new sides components list changed are touched t l.0 l.1.below a by b straight legal change l.1.has in
            elim near [
              | inl change ↦ inr (l.0, l.1, by_change change)
              | inr is ↦
                  elim (changed_or_same old new sides changed are a legal.leaves.inside) [
                    | inl change ↦ inr (l.0, l.1, by_change change)
                    | inr also ↦
                        let has = stays old new sides components list changed are touched t is.0 is.1.below a by b straight is.1.has legal also same in
                        inr (is.0, record { below = is.1.below; has = has }, is.2)
                  ]
            ]
      ]

  near_if_loose : (c : Cell) → IsPassable new c → IsLoose plan c → IsNear c
  near_if_loose c free loose =
      elim (changed_or_same old new sides changed are c free.inside) [
        | inl change ↦ inl change
        | inr same ↦ let l = was_in c free same in inr (l.0, l.1, loose l.0 l.1)
      ]

  seed_if_near : (c : Cell) → IsPassable new c → IsNear c → Contains seeds c
  seed_if_near c free near =
      elim near [
        | inl change ↦ seed_if c free.inside (passable c change free)
        | inr is ↦ seed_if c free.inside (former.of_touched is.0 c is.1.below is.2 is.1.has)
      ]

  pub planned : IsPlan new plan
  planned = record {
    size = t.size;
    kept = λ label low not. kept_component old new sides components list changed are touched t label low not;
    inside = λ k d less. seed_inside (get_or seeds k d) (Contains-get_or seeds k d less);
    in_order = seeds_rise;
    rooted = root_of;
    whole = λ seed cell has loose reach.
        seed_if_near cell (leads_to new seed cell reach.0 reach.1)
        (kept_along new IsNear near_step seed reach.0 cell reach.1 (near_if_loose seed (leads_from new seed cell reach.0 reach.1) loose));
  }

-- the plan from the ranks of former components, to which those of passable changed cells are added, and which are sorted then
module _ (old new : Map) (limits : IsWithinLimits new.width new.height) (sides : HaveSameSides old new) (components : List (List Cell))
    (list : IsComponentList old components) (changed : List Cell) (are : AreChanged old new changed)
    (touched : List Bool) (t : AreTouched new components changed touched) (first : List ℕ) (former : AreFormerRanks components touched (length components) first)
    (more : List ℕ) (kept : (rank : ℕ) → Contains first rank → Contains more rank)
    (passable : (c : Cell) → Contains changed c → IsPassable new c → Contains more (rank_of c))
    (inside : AreRanks new first → AreRanks new more)
    (ranks : List ℕ) (sorted : IsPermutation more ranks) (seeds : List Cell) (p : AreCellsOf ranks seeds) where
  sorted_has : (rank : ℕ) → Contains more rank → Contains ranks rank
  sorted_has rank has = Contains-permutation more ranks rank sorted has

  former_inside : AreRanks new first
  former_inside = λ k d less.
      let m = former.known k d less in
      let is = m.2 in
      let free = member_is_passable old (get_or components m.1 []) (list.each m.1 [] is.below) m.0 is.has in
      (m.0, inside_too old new sides m.0 free.inside, m.3)

  pub planned_from : IsPlan new (record { components = components; touched = touched; seeds = seeds })
  planned_from =
      planned old new limits sides components list changed are touched t ranks
      (record {
        of_kept = λ label low not. sorted_has (rank_of (first_of (get_or components label []))) (kept (rank_of (first_of (get_or components label []))) (former.of_kept label low not));
        of_touched = λ label c low is has. sorted_has (rank_of c) (kept (rank_of c) (former.of_touched label c low is has));
      })
      (λ c change free. sorted_has (rank_of c) (passable c change free))
      (All-permutation (λ rank. (cell : Cell) × IsInside new cell × (rank ≡ rank_of cell)) more ranks sorted (inside former_inside))
      seeds p
