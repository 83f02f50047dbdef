-- An order of connected cells has each of them once.
use Rattle.std.proofs.Common.{◌≡◌, ◌≢◌, ◌⊎◌, ◌<◌, false, not, List, [], ◌∷◌, ◌++◌, length, refl, sym, ap, subst, ◌∙◌, inl, inr, arith}
use Rattle.std.specs.List.{AllPairs, Contains}
use Rattle.std.specs.List.Sorted.{IsPermutation}
use Rattle.std.proofs.lemmas.Bool.{cases_Bool, and_from, false≢true}
use Rattle.std.proofs.lemmas.List.Elements.{Contains-get_or, Contains-push_cases, Contains-append_left, Contains-append_right}
use Rattle.std.proofs.lemmas.List.Quantifiers.{all_pairs_push}
use Rattle.std.proofs.lemmas.List.Sorted.{IsPermutation-refl}
use Rattle.moves.specs.declared.Cell.{Cell}
use Rattle.moves.specs.Maps.{ComesBefore, has_cell}
use Rattle.moves.specs.Components.{first_of}
use Rattle.moves.specs.StraightPaths.{IsConnected}
use Rattle.moves.proofs.Connected.{Contains-from_has_cell, has_cell-from_contains}
use Rattle.moves.proofs.RowMajor.{before_differs, contains_cases}
use Rattle.cell_order.specs.declared.OrderKind.TheVariants.{Rows, Dfs}
use Rattle.cell_order.specs.Orders.{is_new, cells_beside, OrdersArePermutations}
use Rattle.cell_order.proofs.Visiting.{Visits, nothing, passes, enters}
use Rattle.cell_order.proofs.Walking.{all_reached}
use Rattle.cell_order.proofs.Permutations.{AreApart, permutation}
use Rattle.cell_order.proofs.DepthBound.{new_parts, visits_exist, visited_is, left_most}

-- a list has a cell or has it not
in_or_out : (cells : List Cell) (c : Cell) → Contains cells c ⊎ (Contains cells c → ⊥)
in_or_out cells c =
    elim (cases_Bool (has_cell cells c)) [
      | inl yes_has ↦ inl (Contains-from_has_cell cells c yes_has)
      | inr not_has ↦ inr (λ h. false≢true (sym not_has ∙ has_cell-from_contains cells c h))
    ]

not_in : (cells : List Cell) (c : Cell) → has_cell cells c ≡ false → Contains cells c → ⊥
not_in cells c old h = false≢true (sym old ∙ has_cell-from_contains cells c h)

kept : {cells xs seen after : List Cell} → Visits cells xs seen after → (c : Cell) → Contains seen c → Contains after c
kept nothing c h = h
kept (passes old rest) c h = kept rest c h
kept (enters {cell = cell} {seen = seen} new inner rest) c h = kept rest c (kept inner c (Contains-append_left seen (cell ∷ []) c h))

among : {cells xs seen after : List Cell} → Visits cells xs seen after → (c : Cell) → Contains after c → Contains seen c ⊎ Contains cells c
among nothing c h = inl h
among (passes old rest) c h = among rest c h
among {cells = cells} (enters {cell = cell} {seen = seen} new inner rest) c h =
    elim (among rest c h) [
      | inr there ↦ inr there
      | inl middle ↦ elim (among inner c middle) [
        | inr there ↦ inr there
        | inl pushed ↦ elim (Contains-push_cases seen cell c pushed) [
          | inl before ↦ inl before
          | inr same ↦ inr (Contains-from_has_cell cells c (ap (has_cell cells) (sym same) ∙ (new_parts cells seen cell new).0))
        ]
      ]
    ]

apart : {cells xs seen after : List Cell} → Visits cells xs seen after → AreApart seen → AreApart after
apart nothing a = a
apart (passes old rest) a = apart rest a
apart {cells = cells} (enters {cell = cell} {seen = seen} new inner rest) a =
    apart rest (apart inner (all_pairs_push (λ x y. x ≢ y) seen cell a
    (λ k d less same. not_in seen cell (new_parts cells seen cell new).1 (subst (Contains seen) same (Contains-get_or seen k d less)))))

-- a cell of the list that is not new was seen
old_is_seen : (cells seen : List Cell) (c : Cell) → is_new cells seen c ≡ false → Contains cells c → (Contains seen c → ⊥) → ⊥
old_is_seen cells seen c old inside out =
    elim (cases_Bool (has_cell seen c)) [
      | inl before ↦ out (Contains-from_has_cell seen c before)
      | inr never ↦ false≢true (sym old ∙ and_from (has_cell cells c) (not (has_cell seen c)) (has_cell-from_contains cells c inside) (ap not never))
    ]

reached : {cells xs seen after : List Cell} → Visits cells xs seen after → (c : Cell) → Contains xs c → Contains cells c → Contains after c
reached nothing c h inside = absurd (let l = h.1 in omega arith)
reached {cells = cells} (passes {cell = cell} {rest = more} {seen = seen} old rest) c h inside =
    elim (contains_cases cell more c h) [
      | inr later ↦ reached rest c later inside
      | inl same ↦ kept rest c (elim (in_or_out seen c) [ inl before ↦ before | inr out ↦ absurd (old_is_seen cells seen c (ap (is_new cells seen) (sym same) ∙ old) inside out) ])
    ]
reached (enters {cell = cell} {rest = more} {seen = seen} new inner rest) c h inside =
    elim (contains_cases cell more c h) [
      | inr later ↦ reached rest c later inside
      | inl same ↦ kept rest c (kept inner c (subst (Contains (seen ++ cell ∷ [])) same (Contains-append_right seen (cell ∷ []) cell (0, omega arith, refl))))
    ]

-- what visits added is closed: they went on to each cell cells_beside
closed : {cells xs seen after : List Cell} → Visits cells xs seen after → (c d : Cell) → Contains after c → (Contains seen c → ⊥)
    → Contains (cells_beside c) d → Contains cells d → Contains after d
closed nothing c d h out near inside = absurd (out h)
closed (passes old rest) c d h out near inside = closed rest c d h out near inside
closed (enters {cell = cell} {seen = seen} {middle = middle} new inner rest) c d h out near inside =
    elim (in_or_out middle c) [
      | inr later ↦ closed rest c d h later near inside
      | inl added ↦ kept rest d (elim (in_or_out (seen ++ cell ∷ []) c) [
        | inr beyond ↦ closed inner c d added beyond near inside
        | inl pushed ↦ elim (Contains-push_cases seen cell c pushed) [
          | inl before ↦ absurd (out before)
          | inr same ↦ reached inner d (subst (λ x. Contains (cells_beside x) d) (sym same) near) inside
        ]
      ])
    ]

nothing_seen : (c : Cell) → Contains [] c → ⊥
nothing_seen c h = let l = h.1 in omega arith

module _ (cells order : List Cell) (visits : Visits cells (first_of cells ∷ []) [] order) (some : 0 < length cells) (connected : IsConnected cells) where
  first_inside : Contains cells (first_of cells)
  first_inside = Contains-get_or cells 0 (record { x = 0; y = 0 }) some

  all_visited : (c : Cell) → Contains cells c → Contains order c
  all_visited =
      let first_seen = reached visits (first_of cells) (0, omega arith, refl) first_inside in
      all_reached cells order (λ c d seen near inside. closed visits c d seen (nothing_seen c) near inside)
      connected first_inside first_seen

  none_apart : AreApart {X = Cell} []
  none_apart i j d less within = absurd (omega arith)

  pub visits_permute : AllPairs ComesBefore cells → IsPermutation order cells
  visits_permute rows =
      permutation order cells (apart visits none_apart) (λ i j d less within. before_differs _ _ (rows i j d less within))
      (λ c h. elim (among visits c h) [ inl none ↦ absurd (nothing_seen c none) | inr inside ↦ inside ]) all_visited

pub orders_are_permutations : OrdersArePermutations
orders_are_permutations Rows cells some rows connected = IsPermutation-refl cells
orders_are_permutations Dfs cells some rows connected =
    let visited = visits_exist cells (length cells) (first_of cells ∷ []) [] (left_most cells []) in
    subst (λ order. IsPermutation order cells) (sym (visited_is cells (first_of cells ∷ []) [] visited))
    (visits_permute cells visited.after visited.visits some connected rows)
