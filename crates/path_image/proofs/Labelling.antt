-- The words of cells, from the labels of a version.
use Rattle.std.proofs.Common.{◌≡◌, ℕ, ◌+◌, ◌*◌, ◌<◌, List, length, refl, sym, arith}
use Rattle.std.specs.List.{Contains}
use Rattle.moves.specs.declared.Cell.{Cell}
use Rattle.moves.specs.Maps.{passable_count}
use Rattle.moves.specs.Components.{IsComponentList}
use Rattle.components.specs.Groups.{IsLabelOf}
use Rattle.row_store.specs.Comps.{IsPlaceOf}
use Rattle.versions.specs.declared.version.Totals.{Totals}
use Rattle.versions.specs.Databases.{Versioned, IsVersion, comp_at, runs_of}
use Rattle.versions.specs.Stored.{IsStored}
use Rattle.versions.proofs.Homes.{home_of, labelled, as_many}
use Rattle.path_image.specs.declared.TheConstants.{HALF, BLOCKED}
use Rattle.path_image.specs.Images.{home_word}
use Rattle.path_image.proofs.Homes.{passable_in, word_of_home, word_of_blocked}

module _ (version : Versioned) (is : IsVersion version) (labels : List (List Cell)) (listed : IsComponentList version.map labels) (cell : Cell) where
  totals : Totals
  totals = record { cells = passable_count version.map; comps = length version.comps; runs = runs_of version.comps }

  stored : IsStored version.map version.order labels version.comps totals
  unfolding totals
  stored = record {
    searchable = is.searchable;
    database = is.database;
    listed = listed;
    long = as_many version.map version.order labels version.comps listed is.database;
    cells = refl;
    components = refl;
    runs = refl;
  }

  -- a labelled cell stands in the component with that number
  pub record IsHere (label : ℕ) : Type 0 where
    pub within : label < length version.comps
    pub has : Contains (comp_at version.comps label).cells cell

  pub labelled_here : (label : ℕ) → IsLabelOf labels cell label → IsHere label
  labelled_here label of =
      let home = home_of version.map version.order labels version.comps totals stored cell cell label (comp_at version.comps label) of of refl in
      record { within = (let long = stored.long in let below = of.below in omega arith); has = home.leaves }

  pub labelled_word : (label place : ℕ) → IsLabelOf labels cell label → IsPlaceOf (comp_at version.comps label).cells cell place
      → label * HALF + place ≡ home_word 0 version.comps cell
  labelled_word label place of at =
      let here = labelled_here label of in
      sym (word_of_home version is cell label place (record { passable = passable_in version is label cell here.within here.has; within = here.within; there = at }))

  pub unlabelled_word : ((label : ℕ) → IsLabelOf labels cell label → ⊥) → BLOCKED ≡ home_word 0 version.comps cell
  unlabelled_word none =
      sym (word_of_blocked version is cell (λ passable. (let found = labelled version.map labels cell listed passable in none found.0 found.1)))
