-- A list of sets without some places, and with some more; and the edits of its row that lead there.
use Rattle.std.specs.Prelude.{◌≡◌, ℕ, List, [], ◌∷◌, ◌++◌, length, map, take, insert, remove}
use Rattle.row_edit.specs.declared.PlaceSet.{PlaceSet}
use Rattle.row_edit.specs.declared.each.RowEdit.{RowEdit}
use Rattle.row_edit.specs.declared.each.RowEdit.TheVariants.{Out, In}

-- the places of the holes
abbrev pub places_of : List PlaceSet → List ℕ
places_of holes = map (λ hole. hole.place) holes

-- their sets
abbrev pub sets_of : List PlaceSet → List ℕ
sets_of holes = map (λ hole. hole.set) holes

-- the holes are the gaps, each with its set
pub record AreHoles (gaps sets : List ℕ) (holes : List PlaceSet) : Type 0 where
  pub places : places_of holes ≡ gaps
  pub sets_are : sets_of holes ≡ take (length gaps) sets

-- the list without the holes, of which the last is taken out first
abbrev pub takes : List ℕ → List PlaceSet → List ℕ
takes sets [] = sets
takes sets (hole ∷ holes) = remove (takes sets holes) hole.place

-- the list with the holes, of which the first is put in first
abbrev pub puts : List ℕ → List PlaceSet → List ℕ
puts sets [] = sets
puts sets (hole ∷ holes) = puts (insert sets hole.place hole.set) holes

-- the edits that take the holes out, the last hole first
abbrev pub outs : List PlaceSet → List RowEdit
outs [] = []
outs (hole ∷ holes) = outs holes ++ Out hole ∷ []

-- the edits that put them in
abbrev pub ins : List PlaceSet → List RowEdit
ins holes = map In holes
