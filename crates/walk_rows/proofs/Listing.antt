-- Each map has a list of components: of each passable cell those that it reaches, listed by their first cells.
use Rattle.std.proofs.Common.{◌≡◌, ℕ, ◌<◌, ◌⊎◌, Bool, true, false, List, [], ◌++◌, length, map, filter, get_or, All, Any, Contains, refl, sym, ap, subst, ◌∙◌, inl, inr, arith}
use Rattle.std.proofs.lemmas.Bool.{false≢true}
use Rattle.std.proofs.lemmas.List.{get_or-map, length-map}
use Rattle.std.proofs.lemmas.List.Elements.{All-contains, All-filter, Contains-get_or, filter_passes}
use Rattle.std.proofs.lemmas.List.Kept.{AllPairs-filter}
use Rattle.moves.specs.declared.Cell.{Cell}
use Rattle.moves.specs.Maps.{Map, IsPassable, ComesBefore, is_cell, passable_cells}
use Rattle.moves.specs.Paths.{Reaches}
use Rattle.moves.specs.Components.{IsComponent, IsComponentList, first_of}
use Rattle.moves.specs.ComponentLaws.{IsListed}
use Rattle.moves.proofs.Connected.{is_cell-true, is_cell-same}
use Rattle.moves.proofs.LawsOfPaths.{joined, leads_back, leads_to}
use Rattle.moves.proofs.RowMajor.{contains_filtered, passable_cells_listed}
use Rattle.moves.specs.PathLaws.{back_along}
use Rattle.versions.proofs.Determined.{first_of_component, same_component}
use Rattle.walk_rows.specs.Existing.{ComponentsExist}
use Rattle.walk_rows.proofs.Reaching.{reaches_or_not}

-- the answer as a test
abbrev pub test_of : {P : Type 0} → P ⊎ (P → ⊥) → Bool
test_of (inl h) = true
test_of (inr none) = false

test_true : {P : Type 0} (d : P ⊎ (P → ⊥)) → P → test_of d ≡ true
test_true (inl h) p = refl
test_true (inr none) p = absurd (none p)

true_test : {P : Type 0} (d : P ⊎ (P → ⊥)) → test_of d ≡ true → P
true_test (inl h) is = h
true_test (inr none) is = absurd (false≢true is)

-- what a filter keeps passes the test and was there
kept_passes : {X : Type 0} (p : X → Bool) (xs : List X) (x : X) → Contains (filter p xs) x → p x ≡ true
kept_passes p xs x h = All-contains (λ y. p y ≡ true) (filter p xs) x (filter_passes p xs) h

module _ (m : Map) (is : IsListed m) where
  free_cell : (cell : Cell) → Contains (passable_cells m) cell → IsPassable m cell
  free_cell cell h = (is.just_these cell).0 h

  all_free : All (IsPassable m) (passable_cells m)
  all_free k d less = free_cell (get_or (passable_cells m) k d) (Contains-get_or (passable_cells m) k d less)

  abbrev pub reached_from : Cell → Cell → Bool
  reached_from a b = test_of (reaches_or_not m is a b)

  -- the cells that a cell reaches
  abbrev pub reached : Cell → List Cell
  reached a = filter (reached_from a) (passable_cells m)

  into : (a b : Cell) → Reaches m a b → Contains (reached a) b
  into a b reach =
      let there = (is.just_these b).1 (leads_to m a b reach.0 reach.1) in
      contains_filtered (reached_from a) (passable_cells m) b there.0 there.1 there.2 (test_true (reaches_or_not m is a b) reach)

  out_of : (a b : Cell) → Contains (reached a) b → Reaches m a b
  out_of a b h = true_test (reaches_or_not m is a b) (kept_passes (reached_from a) (passable_cells m) b h)

  onward : (a b c : Cell) → Reaches m a b → Reaches m b c → Reaches m a c
  onward a b c p q = (p.0 ++ q.0, joined m a b c p.0 q.0 p.1 q.1)

  backward : (a b : Cell) → Reaches m a b → Reaches m b a
  backward a b p = (back_along p.0, leads_back m a b p.0 p.1)

  itself : (a : Cell) → IsPassable m a → Reaches m a a
  itself a free = ([], (free, refl))

  is_component : (a : Cell) → IsPassable m a → IsComponent m (reached a)
  is_component a free = record {
    some = (let h = into a a (itself a free) in let less = h.1 in omega arith);
    passable = All-filter (reached_from a) (IsPassable m) (passable_cells m) all_free;
    whole = λ from to has. (
      λ there. onward from a to (backward a from (out_of a from has)) (out_of a to there),
      λ reach. into a to (onward a from to (out_of a from has) reach),
    );
    in_order = AllPairs-filter ComesBefore (reached_from a) (passable_cells m) is.in_order;
  }

  -- the cell is the first of those that it reaches
  abbrev pub is_root : Cell → Bool
  is_root c = is_cell (first_of (reached c)) c

  abbrev pub roots : List Cell
  roots = filter is_root (passable_cells m)

  root_first : (c : Cell) → Contains roots c → first_of (reached c) ≡ c
  root_first c h = sym (is_cell-true (first_of (reached c)) c (kept_passes is_root (passable_cells m) c h))

  root_free : All (IsPassable m) roots
  root_free = All-filter is_root (IsPassable m) (passable_cells m) all_free

  abbrev pub components : List (List Cell)
  components = map reached roots

  abbrev corner : Cell
  corner = record { x = 0; y = 0 }

  component_is : (k : ℕ) (d : List Cell) → k < length components → (k < length roots) × (get_or components k d ≡ reached (get_or roots k corner))
  component_is k d less =
      let size = length-map roots reached in
      let inside : k < length roots = omega arith in
      (inside, get_or-map reached roots k corner d inside)

  has_home : (cell : Cell) → IsPassable m cell → Any (λ cells. Contains cells cell) components
  has_home cell free =
      let mine = is_component cell free in
      let root : Cell = first_of (reached cell) in
      let here : Contains (reached cell) root = first_of_component m (reached cell) mine in
      let reach = out_of cell root here in
      let there = leads_to m cell root reach.0 reach.1 in
      let back = into root cell (backward cell root reach) in
      let same : reached root ≡ reached cell = same_component m (reached root) (reached cell) cell (is_component root there) mine back (into cell cell (itself cell free)) in
      let first : first_of (reached root) ≡ root = ap first_of same in
      let listed = (is.just_these root).1 there in
      let among = contains_filtered is_root (passable_cells m) root listed.0 listed.1 listed.2 (is_cell-same (first_of (reached root)) root (sym first)) in
      let size = length-map roots reached in
      (among.0, reached root, (let less = among.1 in omega arith), get_or-map reached roots among.0 root (reached root) among.1 ∙ ap reached among.2, back)

  pub components_listed : IsComponentList m components
  components_listed = record {
    each = λ k d less.
        (let at = component_is k d less in
        subst (IsComponent m) (sym at.1) (is_component (get_or roots k corner) (root_free k corner at.0)));
    every_cell = has_home;
    in_order = λ i j d less within.
        (let a = component_is i d (omega arith) in
        let b = component_is j d within in
        let x : Cell = get_or roots i corner in
        let y : Cell = get_or roots j corner in
        let first_x : first_of (get_or components i d) ≡ x = ap first_of a.1 ∙ root_first x (Contains-get_or roots i corner a.0) in
        let first_y : first_of (get_or components j d) ≡ y = ap first_of b.1 ∙ root_first y (Contains-get_or roots j corner b.0) in
        let before = AllPairs-filter ComesBefore is_root (passable_cells m) is.in_order i j corner less b.0 in
        subst (λ c. ComesBefore (first_of (get_or components i d)) c) (sym first_y) (subst (λ c. ComesBefore c y) (sym first_x) before));
  }

pub components_exist : ComponentsExist
components_exist m whole =
    let listed = passable_cells_listed m whole.limits whole.cells in
    (components m listed, components_listed m listed)
