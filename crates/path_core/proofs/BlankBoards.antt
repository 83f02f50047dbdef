-- Boards of three blocked cells, on which edits change nothing. Only tests have them.
use Rattle.std.proofs.Common.{◌≡◌, inl, inr, ℕ, zero, suc, ◌+◌, ◌≤◌, true, false, List, [], ◌∷◌, ◌++◌, get_or, set, take, replicate, arith, OnOk, OnErr, IfOk, Global, map, Result, Ok, Err, subst, refl, sym, ap, ◌∙◌}
use Rattle.std.specs.List.{fold}
use Rattle.std.specs.Arc.{arc_value}
use Rattle.std.specs.declared.sync.Arc.{Arc}
use Rattle.row_store.specs.declared.CompData.{CompData}
use Rattle.std.proofs.lemmas.Bool.{cases_lt}
use Rattle.std.proofs.lemmas.List.{append-nil, get_or-replicate, get_or_past, take_all}
use Rattle.std.proofs.lemmas.List.Sums.{fold_push}
use Rattle.moves.specs.declared.Cell.{Cell}
use Rattle.moves.specs.declared.Terrain.TheVariants.{Blocked}
use Rattle.moves.specs.Maps.{Map, IsPassable, blocked_map, map_of, place_of}
use Rattle.cell_order.specs.declared.OrderKind.{OrderKind}
use Rattle.cell_order.specs.declared.OrderKind.TheVariants.{Rows}
use Rattle.versions.specs.Databases.{IsDatabase, IsVersion, Versioned, version_of}
use Rattle.edit_log.specs.declared.edit.Edit.{Edit}
use Rattle.edit_log.specs.Edits.{changed, edited, map_after}
use Rattle.path_core.specs.declared.entry.Entry.{Entry}
use Rattle.path_core.specs.declared.entry.Entry.TheVariants.{Accept, Publish}
use Rattle.path_core.specs.BlankBoards.{IsBlank, blank_after}
use Rattle.path_core.specs.Boards.{Boarded, IsFirst, MayBePublished, new_board, with_entry, with_version}
use Rattle.path_core.specs.Histories.{accepted_count, edits_of, map_at, map_now, IsVersionAt}
use Rattle.path_core.proofs.Growing.{count_goes_on, edits_go_on, map_at_all, map_stays}

abbrev pub blank : Map
blank = blocked_map 3 1

-- no cell is passable
none_there : (place : ℕ) → get_or (replicate 3 false) place false ≡ false
none_there place = elim (cases_lt place 3) [
  | inl below ↦ get_or-replicate 3 place false false below
  | inr past ↦ get_or_past (replicate 3 false) place false past
]

none_passable : (cell : Cell) → IsPassable blank cell → ⊥
none_passable cell free = let e : false ≡ true = sym (none_there (place_of 3 cell)) ∙ free.passable in absurd (cc)

pub blank_database : (order : OrderKind) → IsDatabase blank order []
blank_database order = record {
  components = [];
  listed = record {
    each = λ k d below. absurd (omega (arith, below));
    every_cell = λ cell free. absurd (none_passable cell free);
    in_order = λ i j d less below. absurd (omega (arith, below));
  };
  whole = refl;
  each = λ label below. absurd (omega (arith, below));
}

-- to block a blocked cell changes nothing
set_blank : (place : ℕ) → set (replicate 3 Blocked) place Blocked ≡ replicate 3 Blocked
set_blank zero = refl
set_blank (suc zero) = refl
set_blank (suc (suc zero)) = refl
set_blank (suc (suc (suc place))) = refl

edited_blank : (edit : Edit) (cell : Cell) → edit ≡ record { cell = cell; terrain = Blocked } ∷ [] → edited blank edit ≡ blank
edited_blank edit cell is = ap (fold changed blank) is ∙ ap (map_of 3 1) (set_blank (place_of 3 cell))

version_blank : (prefix : ℕ) → IsVersion (blank_after prefix)
unfolding blank_after
version_blank prefix = record { searchable = omega arith; database = blank_database Rows }

pub first_blank : (room : ℕ) (version : Versioned) → version ≡ blank_after 0 → IsBlank (new_board blank version room)
unfolding blank_after
first_blank room version is = rw is (record {
  versions = λ prefix. record {
    map = ap (map_after blank) (sym (take_all prefix [] (omega arith)));
    after = refl;
    order = refl;
    whole = version_blank prefix;
  };
})

-- the version of three blocked cells is the first one of a board of them
pub is_first : (version : Versioned) → version ≡ blank_after 0 → IsFirst blank version
unfolding blank_after
is_first version is = rw is (record { map = refl; none = refl })

-- the version may be published after so many accepted edits
pub publishable : (board : Boarded) (version : Versioned) (prefix : ℕ) → IsBlank board → version ≡ blank_after prefix
    → prefix ≤ accepted_count board.history → MayBePublished board.start board.order board.history version
unfolding blank_after
publishable board version prefix all is within =
    rw is (record { accepted = within; is = all.versions prefix })

map_blank : (prefix : ℕ) → (blank_after prefix).map ≡ blank
unfolding blank_after
map_blank prefix = refl

entered_at : (board : Boarded) (pass : ℕ) (edit : Edit) (cell : Cell) → IsBlank board
    → edit ≡ record { cell = cell; terrain = Blocked } ∷ [] → (prefix : ℕ)
    → IsVersionAt board.start board.order (board.history ++ Accept pass edit ∷ []) prefix (blank_after prefix)
entered_at board pass edit cell all is prefix =
    let entry : Entry = Accept pass edit in
    let count : ℕ = accepted_count board.history in
    let at : IsVersionAt board.start board.order board.history prefix (blank_after prefix) = all.versions prefix in
    let now : map_now board.start board.history ≡ blank =
    sym (map_at_all board.start board.history) ∙ sym ((all.versions count).map) ∙ map_blank count in
    let more : accepted_count (board.history ++ entry ∷ []) ≡ accepted_count board.history + 1 = count_goes_on board.history (entry ∷ []) in
    let map : (blank_after prefix).map ≡ map_at board.start (board.history ++ entry ∷ []) prefix = elim (cases_lt count prefix) [
      | inr within ↦ at.map ∙ sym (map_stays board.start board.history (entry ∷ []) prefix within)
      | inl past ↦
          map_blank prefix
          ∙ sym (
          ap (map_after board.start) (take_all prefix (edits_of (board.history ++ entry ∷ [])) (omega (arith, more, past)))
          ∙ ap (map_after board.start) (edits_go_on board.history (entry ∷ []))
          ∙ fold_push edited board.start (edits_of board.history) edit
          ∙ ap (λ m. edited m edit) now
          ∙ edited_blank edit cell is
          )
    ] in
    record { map = map; after = at.after; order = at.order; whole = at.whole }

-- an edit more that blocks
pub entered_blank : (board : Boarded) (pass : ℕ) (edit : Edit) (cell : Cell) → IsBlank board
    → edit ≡ record { cell = cell; terrain = Blocked } ∷ [] → IsBlank (with_entry board (Accept pass edit))
entered_blank board pass edit cell all is = record { versions = λ prefix. entered_at board pass edit cell all is prefix }

-- a publication more
pub published_blank : (board : Boarded) (pass : ℕ) (version : Versioned) → IsBlank board → IsBlank (with_version board pass version)
published_blank board pass version all = record {
  versions = λ prefix. record {
    map = (all.versions prefix).map
        ∙ ap (λ edits. map_after board.start (take prefix edits))
        (sym (edits_go_on board.history (Publish pass version.prefix ∷ []) ∙ append-nil (edits_of board.history)));
    after = (all.versions prefix).after;
    order = (all.versions prefix).order;
    whole = (all.versions prefix).whole;
  };
}

-- what holds where a call succeeds and where it fails holds after it
pub either_way : {E : Type 0} (result : Result ℕ E) (old entered new : Boarded) → OnOk result (new ≡ entered) → OnErr result (new ≡ old)
    → IsBlank old → IsBlank entered → IsBlank new
either_way (Ok n) old entered new is kept before after = subst IsBlank (sym is) after
either_way (Err e) old entered new is kept before after = subst IsBlank (sym kept) before

-- the same in the tests' own terms
pub database_made : (grid : Map) (items : List (Arc CompData Global)) → grid ≡ blank → items ≡ [] → IsDatabase grid Rows (map arc_value items)
database_made grid items eg ei = rw (eg, ei) (blank_database Rows)

pub version_made : (grid : Map) (items : List (Arc CompData Global)) (shared version : Versioned) (prefix : ℕ) → grid ≡ blank → items ≡ []
    → version ≡ version_of grid prefix Rows (map arc_value items) → shared ≡ version → shared ≡ blank_after prefix
unfolding blank_after
version_made grid items shared version prefix eg ei ev es = es ∙ ev ∙ rw (eg, ei) refl

pub first_made : (grid : Map) (version : Versioned) → grid ≡ blank → version ≡ blank_after 0 → IsFirst grid version
first_made grid version eg ev = rw eg (is_first version ev)

pub board_made : {E : Type 0} (result : Result Boarded E) (grid : Map) (version : Versioned) (room : ℕ) → grid ≡ blank → version ≡ blank_after 0
    → IfOk result (λ board. board ≡ new_board grid version room) → IfOk result (λ board. IsBlank board)
board_made (Ok board) grid version room eg ev made = rw (made, eg) (first_blank room version ev)
board_made (Err e) grid version room eg ev made = tt
