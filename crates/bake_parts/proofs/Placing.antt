-- The words of the cells of a map, set component by component.
use Rattle.std.proofs.Common.{◌≡◌, ℕ, ◌+◌, ◌*◌, ◌<◌, ◌≤◌, List, length, get_or, replicate, set, refl, sym, ap, subst, ◌∙◌, inl, inr, arith}
use Rattle.std.proofs.lemmas.Bool.{cases_lt, cases_eq}
use Rattle.std.proofs.lemmas.List.{get_or-set_same, get_or-set_other, get_or-replicate, same_lists, get_or_default}
use Rattle.std.proofs.lemmas.List.FromFn.{length-map-range_with_len, get_or-map-range_with_len}
use Rattle.std.proofs.lemmas.List.Elements.{Contains-get_or}
use Rattle.moves.specs.declared.Cell.{Cell}
use Rattle.moves.specs.Maps.{Map, IsInside, cell_at, place_of}
use Rattle.moves.specs.FirstSetLists.{cell_of}
use Rattle.moves.proofs.RowMajor.{cell_at_place_of, place_inside, place_of_cell_at}
use Rattle.grid_search.proofs.Places.{cell_inside}
use Rattle.cell_order.specs.declared.OrderKind.{OrderKind}
use Rattle.versions.specs.Databases.{Versioned, IsVersion, comp_at}
use Rattle.path_image.specs.declared.TheConstants.{HALF, BLOCKED}
use Rattle.path_image.specs.Answers.{IsHomeOf}
use Rattle.path_image.specs.Images.{home_word, homes_of}
use Rattle.path_image.proofs.Homes.{home_of_passable, passable_in, passable_or_not, word_of_blocked, word_of_home}
use Rattle.walk_rows.proofs.Walking.{passable_among}
use Rattle.bake_parts.specs.Homes.{AreHomes, AreHomesTo, AreRight, SetsHomes}
use Rattle.bake_parts.specs.Parts.{IsFirstVersion}
use Rattle.bake_parts.specs.Plans.{AreOrdered, IsComponentOf}
use Rattle.bake_parts.proofs.Ordering.{component_is, comps_size}

-- ---- the cells of one component

pub right_none : (right : ℕ → ℕ) (width : ℕ) (cells : List Cell) (homes : List ℕ) → AreRight right width cells 0 homes homes
right_none right width cells homes = record { each = λ at. inl refl; done = λ place before. absurd (omega arith) }

pub right_more : (right : ℕ → ℕ) (width : ℕ) (cells : List Cell) (upto at word : ℕ) (old now : List ℕ) → at ≡ place_of width (cell_of cells upto) → at < length now
    → word ≡ right at → AreRight right width cells upto old now → AreRight right width cells (upto + 1) old (set now at word)
right_more right width cells upto at word old now here inside is p =
    let there : get_or (set now at word) at 0 ≡ right at = get_or-set_same now at word 0 inside ∙ is in
    record {
      each = λ k. elim (cases_eq k at) [
        | inl same ↦ inr (rw same there)
        | inr other ↦ rw (get_or-set_other now at k word 0 other) (p.each k)
      ];
      done = λ place before. elim (cases_eq (place_of width (cell_of cells place)) at) [
        | inl same ↦ rw same there
        | inr other ↦
            let early : place < upto =
            elim (cases_lt place upto) [
              | inl less ↦ less
              | inr past ↦ (let last : place ≡ upto = omega arith in absurd (other (ap (λ k. place_of width (cell_of cells k)) last ∙ sym here)))
            ] in
            rw (get_or-set_other now at (place_of width (cell_of cells place)) word 0 other) (p.done place early)
      ];
    }

-- ---- all components

module _ (version : Versioned) (is : IsVersion version) where
  abbrev pub right_at : ℕ → ℕ
  right_at at = home_word 0 version.comps (cell_at version.map.width at)

  inside_of : (label place : ℕ) → label < length version.comps → place < length (comp_at version.comps label).cells
      → IsInside version.map (cell_of (comp_at version.comps label).cells place)
  inside_of label place within there = (passable_in version is label _ within (Contains-get_or (comp_at version.comps label).cells place (record { x = 0; y = 0 }) there)).inside

  pub place_in_map : (label place : ℕ) → label < length version.comps → place < length (comp_at version.comps label).cells
      → place_of version.map.width (cell_of (comp_at version.comps label).cells place) < version.map.width * version.map.height
  place_in_map label place within there =
      let inside = inside_of label place within there in
      place_inside version.map.width version.map.height (cell_of (comp_at version.comps label).cells place) inside.column inside.row

  -- the word of a cell at a place
  home_at : (label place : ℕ) → label < length version.comps → place < length (comp_at version.comps label).cells
      → IsHomeOf version (cell_of (comp_at version.comps label).cells place) label place
  home_at label place within there =
      record {
        passable = passable_in version is label _ within (Contains-get_or (comp_at version.comps label).cells place (record { x = 0; y = 0 }) there);
        within = within;
        there = record { within = there; there = refl };
      }

  pub right_word : (label place : ℕ) → label < length version.comps → place < length (comp_at version.comps label).cells
      → label * HALF + place ≡ right_at (place_of version.map.width (cell_of (comp_at version.comps label).cells place))
  right_word label place within there =
      let cell = cell_of (comp_at version.comps label).cells place in
      sym (word_of_home version is cell label place (home_at label place within there))
      ∙ ap (home_word 0 version.comps) (sym (cell_at_place_of version.map.width cell (inside_of label place within there).column))

  homes_none : (homes : List ℕ) → homes ≡ replicate (version.map.width * version.map.height) BLOCKED → AreHomesTo version 0 homes
  homes_none homes blank = record {
    each = λ at inside. inl (ap (λ hs. get_or hs at 0) blank ∙ get_or-replicate (version.map.width * version.map.height) at BLOCKED 0 inside);
    done = λ label place before there. absurd (omega arith);
  }

  pub homes_more : (number : ℕ) (old new : List ℕ) (cells : List Cell) → number < length version.comps → (comp_at version.comps number).cells ≡ cells
      → AreHomesTo version number old → SetsHomes version.map.width number cells (length cells) old new → AreHomesTo version (number + 1) new
  homes_more number old new cells within are p sets =
      let width = version.map.width in
      let own : (place : ℕ) → place < length cells → number * HALF + place ≡ right_at (place_of width (cell_of cells place)) = λ place there.
      subst (λ cs. number * HALF + place ≡ right_at (place_of width (cell_of cs place))) are
      (right_word number place within (subst (λ cs. place < length cs) (sym are) there)) in
      let right = sets right_at own in
      record {
        each = λ at inside. elim (right.each at) [
          | inl kept ↦ rw kept (p.each at inside)
          | inr now ↦ inr now
        ];
        done = λ label place before there.
            (let cell = cell_of (comp_at version.comps label).cells place in
            let at = place_of width cell in
            let w : label < length version.comps = omega arith in
            let back : right_at at ≡ home_word 0 version.comps cell = ap (home_word 0 version.comps) (cell_at_place_of width cell (inside_of label place w there).column) in
            elim (cases_lt label number) [
              | inl early ↦ elim (right.each at) [
                | inl kept ↦ kept ∙ p.done label place early there
                | inr now ↦ now ∙ back
              ]
              | inr late ↦
                  let same : label ≡ number = omega arith in
                  let mine : (comp_at version.comps label).cells ≡ cells = ap (λ l. (comp_at version.comps l).cells) same ∙ are in
                  subst (λ cs. get_or new (place_of width (cell_of cs place)) 0 ≡ right_at (place_of width (cell_of cs place))) (sym mine)
                  (right.done place (subst (λ cs. place < length cs) mine there))
                  ∙ back
            ]);
      }

  pub homes_all : (number : ℕ) (homes : List ℕ) → length homes ≡ version.map.width * version.map.height → length version.comps ≤ number
      → AreHomesTo version number homes → homes ≡ homes_of version
  homes_all number homes size all p =
      let width = version.map.width in
      let count = width * version.map.height in
      same_lists homes (homes_of version) (size ∙ sym (length-map-range_with_len right_at 0 count))
      (λ at d within.
      let inside : at < count = omega arith in
      let read : get_or (homes_of version) at d ≡ right_at at = get_or-map-range_with_len right_at 0 count at at d inside (omega arith) in
      let cell = cell_at width at in
      let here : IsInside version.map cell = cell_inside version.map at inside in
      get_or_default homes at d 0 within
      ∙ elim (p.each at inside) [
        | inr right ↦ right
        | inl blank ↦ elim (passable_or_not version is cell here) [
          | inr blocked ↦ blank ∙ sym (word_of_blocked version is cell blocked)
          | inl passable ↦
              let home = home_of_passable version is cell passable in
              let w = home.2.within in
              let told = p.done home.0 home.1 (omega arith) home.2.there.within in
              let place : place_of width (cell_of (comp_at version.comps home.0).cells home.1) ≡ at = ap (place_of width) home.2.there.there ∙ place_of_cell_at width at in
              subst (λ k. get_or homes k 0 ≡ home_word 0 version.comps (cell_of (comp_at version.comps home.0).cells home.1)) place told
              ∙ ap (home_word 0 version.comps) home.2.there.there
        ]
      ]
      ∙ sym read)

-- ---- over the map

module _ (on : Map) (order : OrderKind) (all : List (List Cell)) (p : AreOrdered on order all) where
  pub homes_begin : (w h : ℕ) (homes : List ℕ) → homes ≡ replicate (w * h) BLOCKED → w ≡ on.width → h ≡ on.height
      → (version : Versioned) → IsFirstVersion on order version → AreHomesTo version 0 homes
  homes_begin w h homes blank width height version first =
      homes_none version first.is homes
      (blank ∙ ap (λ n. replicate (n * h) BLOCKED) width ∙ ap (λ n. replicate (on.width * n) BLOCKED) height ∙ ap (λ (m : Map). replicate (m.width * m.height) BLOCKED) (sym first.of))

  -- each cell of a component lies inside
  pub homes_inside : (number w size : ℕ) (cells : List Cell) → number < length all → cells ≡ get_or all number cells → w ≡ on.width → size ≡ on.width * on.height
      → (place : ℕ) → place < length cells → place_of w (cell_of cells place) < size
  homes_inside number w size cells within are width long place there =
      let is : IsComponentOf (record { on = on; order = order }) number cells = subst (IsComponentOf _ number) (sym are) (component_is on order all p number cells within) in
      let cell = cell_of cells place in
      let free = passable_among on cells cell is.component (Contains-get_or cells place (record { x = 0; y = 0 }) there) in
      let below = place_inside on.width on.height cell free.inside.column free.inside.row in
      rw (width, long) below

  pub homes_next : (number w : ℕ) (old new : List ℕ) (cells : List Cell) → number < length all → cells ≡ get_or all number cells → w ≡ on.width
      → ((version : Versioned) → IsFirstVersion on order version → AreHomesTo version number old) → SetsHomes w number cells (length cells) old new
      → (version : Versioned) → IsFirstVersion on order version → AreHomesTo version (number + 1) new
  homes_next number w old new cells within are width before sets version first =
      let is : IsComponentOf (record { on = on; order = order }) number cells = subst (IsComponentOf _ number) (sym are) (component_is on order all p number cells within) in
      let kept = is.kept version first in
      homes_more version first.is number old new cells kept.within kept.are (before version first)
      (subst (λ n. SetsHomes n number cells (length cells) old new) (width ∙ ap (λ (m : Map). m.width) (sym first.of)) sets)

  pub homes_end : (number : ℕ) (homes : List ℕ) → length all ≤ number → length homes ≡ on.width * on.height
      → ((version : Versioned) → IsFirstVersion on order version → AreHomesTo version number homes) → AreHomes on order homes
  homes_end number homes end size set = record {
    size = size;
    are = λ version first.
        (let long = comps_size on order all p version first in
        homes_all version first.is number homes (size ∙ ap (λ (m : Map). m.width * m.height) (sym first.of)) (omega arith) (set version first));
  }
