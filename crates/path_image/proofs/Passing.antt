-- The image of a version passes the look.
use Rattle.std.proofs.Common.{◌≡◌, ℕ, ◌+◌, ◌*◌, ◌/◌, ◌%◌, ◌<◌, List, length, map, get_or, refl, sym, ap, subst, ◌∙◌, inl, inr, arith}
use Rattle.std.proofs.lemmas.List.{get_or-map}
use Rattle.std.proofs.lemmas.List.Elements.{Contains-get_or}
use Rattle.moves.specs.Maps.{IsWithinLimits, cell_at}
use Rattle.moves.proofs.RowMajor.{place_of_cell_at, row_inside}
use Rattle.run_pack.specs.Runs.{Rises, run_of_word}
use Rattle.run_pack.proofs.Words.{map-run_of_word, All-move_below}
use Rattle.row_store.specs.Rows.{row_at}
use Rattle.row_store.specs.Comps.{IsComp}
use Rattle.versions.specs.Databases.{Versioned, comp_at}
use Rattle.path_image.specs.declared.TheConstants.{HEAD, HALF}
use Rattle.path_image.specs.declared.checking.ImageFault.{ImageFault}
use Rattle.path_image.specs.declared.checking.ImageFault.TheVariants.{Magic, Form, Length, Sides, Lists, Table, Home}
use Rattle.path_image.specs.Images.{IsImageOf, head_of, starts_of, cell_word, row_words}
use Rattle.path_image.specs.Reading.{start_in, HasMagic, IsTable, IsRowIn, IsCellIn, LeadsHome, LeadsInside, StandsIn, cell_of_word}
use Rattle.path_image.specs.Faults.{IsFaultOf}
use Rattle.path_image.proofs.Parts.{part_at, part_inside}
use Rattle.path_image.proofs.Homes.{passable_in, home_of_passable, word_of_home, word_of_blocked, passable_or_not, small_place, inside_image}
use Rattle.path_image.proofs.Showing.{head_part, starts_part, starts_size, image_long, width_shown, height_shown, count_shown, home_at_place, size_shown, row_shown, table_there, cell_read, border_read, next_start, row_part, runs_read, runs_part}

-- words with a fault do not lead inside
pub faulty : (words : List ℕ) (fault : ImageFault) → IsFaultOf words fault → LeadsInside words → ⊥
faulty words Magic wrong inside = wrong inside.head.magic
faulty words Form wrong inside = wrong inside.head.form
faulty words Length wrong inside = wrong inside.head.whole
faulty words Sides wrong inside = wrong inside.head.sides
faulty words Lists wrong inside = wrong inside.head.lists
faulty words (Table component) wrong inside = wrong.1 (inside.tables component wrong.0)
faulty words (Home place) wrong inside = wrong.1 (inside.homes place wrong.0)

module _ (words : List ℕ) (version : Versioned) (image : IsImageOf words version) (sides : IsWithinLimits version.map.width version.map.height) where
  magic : HasMagic words
  magic = record {
    long = part_inside words (head_of version) 0 (head_part words version image);
    path = part_at words (head_of version) 0 0 0 (head_part words version image) (omega arith) refl;
    image = part_at words (head_of version) 0 1 1 (head_part words version image) (omega arith) refl;
  }

  module _ (label : ℕ) (within : label < length version.comps) where
    whole_is : IsComp (comp_at version.comps label)
    whole_is = (image.of.database.each label within).whole

    cell_in : (place : ℕ) → place < length (comp_at version.comps label).cells → IsCellIn words (cell_of_word (get_or words (start_in words label + 1 + place) 0))
    cell_in place inside =
        let comp = comp_at version.comps label in
        let cell = get_or comp.cells place (record { x = 0; y = 0 }) in
        let passable = passable_in version image.of label cell within (Contains-get_or comp.cells place (record { x = 0; y = 0 }) inside) in
        let here = inside_image words version image cell passable.inside in
        let word : get_or words (start_in words label + 1 + place) 0 ≡ cell.y * HALF + cell.x =
        cell_read words (start_in words label) comp whole_is (table_there words version image label within) place inside
        ∙ get_or-map cell_word comp.cells place (record { x = 0; y = 0 }) 0 inside in
        let w = width_shown words version image in
        let columns = sides.columns in
        let x = here.column in
        let low : get_or words (start_in words label + 1 + place) 0 % HALF ≡ cell.x = omega arith in
        let high : get_or words (start_in words label + 1 + place) 0 / HALF ≡ cell.y = omega arith in
        record { column = rw low here.column; row = rw high here.row }

    row_in : (place : ℕ) → place < length (comp_at version.comps label).cells → IsRowIn words (start_in words label) place
    row_in place inside =
        let comp = comp_at version.comps label in
        let start = start_in words label in
        let table = table_there words version image label within in
        let from = border_read words start comp whole_is table place (omega arith) in
        let upto = border_read words start comp whole_is table (place + 1) (omega arith) in
        let next = next_start words start comp whole_is table place inside in
        let part = part_inside words (row_words (row_at comp.rows place)) _ (row_part words start comp whole_is table place inside) in
        let runs = runs_read words start comp whole_is table in
        let tight = (whole_is.rows.each place inside).tight in
        record {
          order = omega arith;
          there = omega arith;
          rises = subst Rises
              (sym (ap (map run_of_word) (row_shown words version image label within place inside)
              ∙ map-run_of_word (row_at comp.rows place) (All-move_below (row_at comp.rows place) (whole_is.rows.each place inside).sets tight)))
              tight.row.rises;
        }

    table_in : IsTable words (start_in words label)
    table_in =
        let comp = comp_at version.comps label in
        let start = start_in words label in
        let table = table_there words version image label within in
        let size = size_shown words version image label within in
        let runs = runs_read words start comp whole_is table in
        let part = part_inside words _ _ (runs_part words start comp whole_is table) in
        let few = whole_is.few in
        record {
          begins = omega arith;
          few = omega arith;
          there = omega arith;
          cells = λ place inside. cell_in place (omega arith);
          rows = λ place inside. row_in place (omega arith);
        }

  home_in_place : (place : ℕ) → place < version.map.width * version.map.height → LeadsHome words (get_or words (HEAD + place) 0)
  home_in_place place inside =
      let cell = cell_at version.map.width place in
      let word = home_at_place words version image place inside in
      let back = place_of_cell_at version.map.width place in
      let row = row_inside version.map.width version.map.height cell (rw back inside) in
      let some = sides.some_columns in
      let column : cell.x < version.map.width = omega arith in
      elim (passable_or_not version image.of cell (record { column = column; row = row })) [
        | inr blocked ↦ inl (word ∙ word_of_blocked version image.of cell blocked)
        | inl passable ↦
            let home = home_of_passable version image.of cell passable in
            let at = word ∙ word_of_home version image.of cell home.0 home.1 home.2 in
            let small = small_place version image.of cell home.0 home.1 home.2 in
            let label : get_or words (HEAD + place) 0 / HALF ≡ home.0 = omega arith in
            let low : get_or words (HEAD + place) 0 % HALF ≡ home.1 = omega arith in
            let count = count_shown words version image in
            let within = home.2.within in
            let size = size_shown words version image home.0 within in
            let there = home.2.there.within in
            let stands : StandsIn words home.0 home.1 = record { component = omega arith; place_in = omega arith } in
            inr (rw (label, low) stands)
      ]

  pub image_leads_inside : LeadsInside words
  image_leads_inside =
      let w = width_shown words version image in
      let h = height_shown words version image in
      let count = count_shown words version image in
      let lists = part_inside words (starts_of version) _ (starts_part words version image) in
      record {
        head = record {
          magic = magic;
          form = part_at words (head_of version) 0 2 2 (head_part words version image) (omega arith) refl;
          whole = part_at words (head_of version) 0 3 3 (head_part words version image) (omega arith) refl ∙ sym (image_long words version image);
          sides = rw (w, h) sides;
          lists = rw (w, h) (let size = starts_size words version image in omega arith);
        };
        tables = λ label within. table_in label (omega arith);
        homes = λ place inside. home_in_place place (rw (w, h) at inside);
      }
