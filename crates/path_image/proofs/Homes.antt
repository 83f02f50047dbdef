-- Where the cells of a version stand in its image.
use Rattle.std.proofs.Common.{◌≡◌, ◌≢◌, ◌⊎◌, ℕ, ◌+◌, ◌*◌, ◌/◌, ◌%◌, ◌<◌, true, false, List, length, map, slice_index_or, Option, MatchOption, refl, sym, ap, subst, ◌∙◌, inl, inr, arith}
use Rattle.std.specs.List.{Contains}
use Rattle.std.proofs.lemmas.Bool.{cases_Bool}
use Rattle.std.proofs.lemmas.List.Elements.{Contains-get_or}
use Rattle.std.specs.Option.{UnwrapsOrElse}
use Rattle.moves.specs.declared.Cell.{Cell}
use Rattle.moves.specs.declared.Move.{Move}
use Rattle.moves.specs.declared.TheConstants.{MAX_PASSABLE}
use Rattle.moves.specs.Maps.{IsInside, IsPassable, passable_of, place_of}
use Rattle.moves.specs.Moves.{number_of}
use Rattle.moves.specs.Paths.{Reaches, Leads}
use Rattle.run_pack.specs.Runs.{IsFound, run_of_word}
use Rattle.run_pack.proofs.Words.{map-run_of_word, All-move_below}
use Rattle.row_store.specs.Rows.{row_at}
use Rattle.row_store.specs.Comps.{IsComp, IsPlaceOf, IsMoveOfRow}
use Rattle.row_store.proofs.CompLaws.{found_by_number, covering_move}
use Rattle.versions.specs.Spelled.{Spells}
use Rattle.versions.specs.Databases.{Versioned, IsVersion, comp_at}
use Rattle.versions.specs.Answers.{IsHome}
use Rattle.versions.proofs.BestWalks.{label_of, one_label, component_of, kept_cells, cells_kept}
use Rattle.versions.proofs.Walking.{found_at}
use Rattle.versions.proofs.Homes.{walk_at_home}
use Rattle.path_image.specs.declared.TheConstants.{HALF, BLOCKED}
use Rattle.path_image.specs.Images.{IsImageOf, home_word}
use Rattle.path_image.specs.Reading.{IsCellIn, home_in, start_in, row_at_place}
use Rattle.path_image.specs.declared.reading.Home.{Home}
use Rattle.path_image.specs.Answers.{IsHomeOf}
use Rattle.path_image.specs.Walks.{BeginsWalk}
use Rattle.path_image.proofs.Places.{home_word-at, home_word-none}
use Rattle.path_image.proofs.Showing.{width_shown, height_shown, home_shown, row_shown}

-- a place of a list has one of its cells
pub contains_at : (cells : List Cell) (cell : Cell) (place : ℕ) → IsPlaceOf cells cell place → Contains cells cell
contains_at cells cell place at = subst (Contains cells) at.there (Contains-get_or cells place (record { x = 0; y = 0 }) at.within)

module _ (version : Versioned) (is : IsVersion version) where
  -- each component is whole
  pub whole_comp : (label : ℕ) → label < length version.comps → IsComp (comp_at version.comps label)
  whole_comp label within = (is.database.each label within).whole

  -- a cell of a component is passable
  pub passable_in : (label : ℕ) (cell : Cell) → label < length version.comps → Contains (comp_at version.comps label).cells cell → IsPassable version.map cell
  passable_in label cell within has =
      let component = component_of version.map version.order version.comps is.database label within in
      let kept = kept_cells version.map version.order version.comps is.database label within cell has in
      subst (IsPassable version.map) kept.2 (component.passable kept.0 cell kept.1)

  -- a passable cell stands somewhere
  pub home_of_passable : (cell : Cell) → IsPassable version.map cell → (label : ℕ) × (place : ℕ) × IsHomeOf version cell label place
  home_of_passable cell passable =
      let found = label_of version.map version.order version.comps is.database cell passable in
      let at = found_at (comp_at version.comps found.0).cells cell found.2 in
      (found.0, at.0, record { passable = passable; within = found.1; there = at.1 })

  -- in one component alone
  pub one_home : (cell : Cell) (i j p q : ℕ) → IsHomeOf version cell i p → IsHomeOf version cell j q → i ≡ j
  one_home cell i j p q a b =
      one_label version.map version.order version.comps is.database i j a.within b.within cell
      (contains_at (comp_at version.comps i).cells cell p a.there) (contains_at (comp_at version.comps j).cells cell q b.there)

  -- and its word says where
  pub word_of_home : (cell : Cell) (label place : ℕ) → IsHomeOf version cell label place → home_word 0 version.comps cell ≡ label * HALF + place
  word_of_home cell label place home =
      home_word-at version.comps 0 label place cell home.within home.there (whole_comp label home.within).once
      (λ j less has. (let at = found_at (comp_at version.comps j).cells cell has in
      let within : j < length version.comps = (let w = home.within in omega arith) in
      let same = one_home cell j label at.0 place (record { passable = home.passable; within = within; there = at.1 }) home in
      omega arith))
      ∙ (let e : (0 + label) * HALF + place ≡ label * HALF + place = omega arith in e)

  pub word_of_blocked : (cell : Cell) → (IsPassable version.map cell → ⊥) → home_word 0 version.comps cell ≡ BLOCKED
  word_of_blocked cell blocked = home_word-none version.comps 0 cell (λ j less has. blocked (passable_in j cell less has))

  -- a place of a component is below what a low half counts
  pub small_place : (cell : Cell) (label place : ℕ) → IsHomeOf version cell label place → place < MAX_PASSABLE
  small_place cell label place home = (let few = (whole_comp label home.within).few in let w = home.there.within in omega arith)

  -- whether a cell inside is passable
  pub passable_or_not : (cell : Cell) → IsInside version.map cell → IsPassable version.map cell ⊎ (IsPassable version.map cell → ⊥)
  passable_or_not cell inside =
      elim (cases_Bool (slice_index_or (passable_of version.map) (place_of version.map.width cell) false)) [
        | inl yes_passable ↦ inl (record { inside = inside; passable = yes_passable })
        | inr blocked ↦ inr (λ passable. let clash : true ≡ false = sym passable.passable ∙ blocked in absurd cc)
      ]

  -- two cells in one component are joined
  pub home_for : (start goal : Cell) (label p q : ℕ) → IsHomeOf version start label p → IsHomeOf version goal label q
      → IsHome version.comps start goal (comp_at version.comps label)
  home_for start goal label p q from to = record {
    label = label;
    within = from.within;
    is = refl;
    leaves = contains_at (comp_at version.comps label).cells start p from.there;
    arrives = contains_at (comp_at version.comps label).cells goal q to.there;
  }

  -- and two cells in two components are not
  pub apart : (start goal : Cell) (i j p q : ℕ) → IsHomeOf version start i p → IsHomeOf version goal j q → i ≢ j → Reaches version.map start goal → ⊥
  apart start goal i j p q from to other reaches =
      let component = component_of version.map version.order version.comps is.database i from.within in
      let begins = kept_cells version.map version.order version.comps is.database i from.within start (contains_at (comp_at version.comps i).cells start p from.there) in
      let ends = cells_kept version.map version.order version.comps is.database i from.within goal ((component.whole start goal begins).1 reaches) in
      other (one_label version.map version.order version.comps is.database i j from.within to.within goal ends (contains_at (comp_at version.comps j).cells goal q to.there))

module _ (words : List ℕ) (version : Versioned) (image : IsImageOf words version) where
  -- the sides of the image are those of the map
  pub inside_map : (cell : Cell) → IsCellIn words cell → IsInside version.map cell
  inside_map cell inside = record {
    column = (let w = width_shown words version image in let c = inside.column in omega arith);
    row = (let h = height_shown words version image in let r = inside.row in omega arith);
  }

  pub inside_image : (cell : Cell) → IsInside version.map cell → IsCellIn words cell
  inside_image cell inside = record {
    column = (let w = width_shown words version image in let c = inside.column in omega arith);
    row = (let h = height_shown words version image in let r = inside.row in omega arith);
  }

  -- the word of a cell that is not blocked leads to where the cell stands
  pub home_read : (cell : Cell) (word : ℕ) → IsCellIn words cell → word ≡ home_in words cell → word ≢ BLOCKED → IsHomeOf version cell (word / HALF) (word % HALF)
  home_read cell word inside read some =
      let here = inside_map cell inside in
      let is = read ∙ home_shown words version image cell here in
      elim (passable_or_not version image.of cell here) [
        | inl passable ↦
            let home = home_of_passable version image.of cell passable in
            let at = is ∙ word_of_home version image.of cell home.0 home.1 home.2 in
            let small = small_place version image.of cell home.0 home.1 home.2 in
            let label : word / HALF ≡ home.0 = omega arith in
            let place : word % HALF ≡ home.1 = omega arith in
            rw (label, place) home.2
        | inr blocked ↦ absurd (some (is ∙ word_of_blocked version image.of cell blocked))
      ]

  -- and that of a blocked cell is that word
  pub blocked_read : (cell : Cell) (word : ℕ) → IsCellIn words cell → word ≡ home_in words cell → word ≡ BLOCKED → IsPassable version.map cell → ⊥
  blocked_read cell word inside read none passable =
      let is = read ∙ home_shown words version image cell passable.inside in
      let home = home_of_passable version image.of cell passable in
      let at = is ∙ word_of_home version image.of cell home.0 home.1 home.2 in
      let small = small_place version image.of cell home.0 home.1 home.2 in
      omega arith

  -- what is found in a row of the image is what the version keeps
  pub move_read : (label place goal : ℕ) (row : List ℕ) (found : Option Move) (number : ℕ) (P : Move → Type 0) (move : Move)
      → MatchOption found (7 < number) (λ m. number_of m ≡ number) → number < 8 → UnwrapsOrElse found P move
      → label < length version.comps → place < length (comp_at version.comps label).cells → goal < length (comp_at version.comps label).cells
      → row ≡ row_at_place words (start_in words label) place → IsFound (map run_of_word row) goal number
      → IsMoveOfRow (comp_at version.comps label) place goal move
  move_read label place goal row found number P move of below is within inside there read look =
      let comp = comp_at version.comps label in
      let whole = whole_comp version image.of label within in
      let tight = (whole.rows.each place inside).tight in
      let same : map run_of_word row ≡ row_at comp.rows place =
      ap (map run_of_word) (read ∙ row_shown words version image label within place inside)
      ∙ map-run_of_word (row_at comp.rows place) (All-move_below (row_at comp.rows place) (whole.rows.each place inside).sets tight) in
      covering_move comp whole place goal move inside there
      (found_by_number found number P move of below is (map run_of_word row) (row_at comp.rows place) goal same look)

  -- the walk of a version, from where its two ends stand
  pub begins_walk : (start goal : Cell) (home : Home) (to run : ℕ) → IsHomeOf version start home.label home.place → IsHomeOf version goal home.label to
      → BeginsWalk words version start goal (record { at = start; home = home; goal = to; run = run })
  begins_walk start goal home to run from there =
      let comp = comp_at version.comps home.label in
      let walk = walk_at_home version.map version.order version.comps image.of.database start goal comp (home_for version image.of start goal home.label home.place to from there) in
      let label = one_label version.map version.order version.comps image.of.database walk.1.spelled.label home.label walk.1.spelled.within from.within start walk.1.spelled.leaves
      (contains_at comp.cells start home.place from.there) in
      record {
        moves = walk.0;
        is = walk.1;
        ahead = record {
          image = image;
          within = from.within;
          here = from.there;
          goal = there.there.within;
          spelled = subst (Spells comp.cells comp.rows start walk.0) (sym there.there.there) walk.2;
          leads = subst (Leads version.map start walk.0) (sym there.there.there) walk.1.best.leads;
          few = subst (λ l. length walk.0 < length (comp_at version.comps l).cells) label walk.1.short;
        };
      }
