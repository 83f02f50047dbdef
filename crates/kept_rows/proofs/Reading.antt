-- Keys are read from the rows of all places.
use Rattle.std.proofs.Common.{◌≡◌, ℕ, ◌<◌, ◌↔◌, List, [], length, take, slice_index, inl, inr, ap, arith}
use Rattle.std.proofs.lemmas.Bool.{cases_lt}
use Rattle.std.proofs.lemmas.List.{get_or-take, get_or_past}
use Rattle.root_cost.specs.declared.TheConstants.{GREATEST_KEY}
use Rattle.moves.specs.declared.Move.{Move}
use Rattle.moves.specs.MoveSets.{Has}
use Rattle.lane_rows.specs.Tables.{edges_of, end_of}
use Rattle.lane_rows.specs.Equations.{lane_of, offered, AreInRange}
use Rattle.kept_rows.specs.Pairs.{Searched, IsSearched, IsFirstByKeys}

module _ (side : Searched) (searched : IsSearched side) where
  abbrev count : ℕ
  count = side.tile.count

  abbrev rows : List (List ℕ)
  rows = take side.tile.count side.tile.keys

  pub key_read : (lane place : ℕ) → place < length side.cells → lane_of rows lane place ≡ lane_of side.tile.keys lane place
  key_read lane place l = ap (λ row. slice_index row lane) (get_or-take side.tile.count side.tile.keys place [] (omega (arith, searched.can.room)))

  module _ (size : length rows ≡ count) where
    pub row_inside : (place : ℕ) → place < length side.cells → place < length rows
    row_inside place l = omega (arith, size, searched.can.room)

    pub in_range : AreInRange rows
    in_range = record {
      each = λ lane place l. elim (cases_lt place (length rows)) [
        | inl inside ↦
            let within : place < length side.cells = omega (arith, size, searched.can.room) in
            let small : lane_of side.tile.keys lane place < GREATEST_KEY = (searched.solved.lanes lane l).small place (omega (arith, searched.solved.places, searched.can.room)) in
            let read = key_read lane place within in
            omega arith
        | inr past ↦
            let none : lane_of rows lane place ≡ 0 = ap (λ row. slice_index row lane) (get_or_past rows place [] past) in
            omega arith
      ];
    }

    -- the set that was read is the first set by keys
    pub first_read : (place lane set : ℕ) → place < length side.cells
        → ((move : Move) → Has set move ↔ ((end_of (edges_of side.near place) move < length rows) × (lane_of rows lane place ≡ offered (edges_of side.near place) (lane_of rows lane) move)))
        → IsFirstByKeys side.near (lane_of side.tile.keys lane) place set
    first_read place lane set l read = record {
      each = λ move.
          let here : lane_of rows lane place ≡ lane_of side.tile.keys lane place = key_read lane place l in (
            λ has.
                (let h = (read move).0 has in
                let inside : end_of (edges_of side.near place) move < length side.cells = (let n = h.0 in omega (arith, size, searched.can.room)) in
                let there : lane_of rows lane (end_of (edges_of side.near place) move) ≡ lane_of side.tile.keys lane (end_of (edges_of side.near place) move) = key_read lane (end_of (edges_of side.near place) move) inside in
                let e = h.1 in
                (omega (arith, searched.solved.places, searched.can.room), omega arith)),
            λ h.
                (let n = h.0 in
                let inside : end_of (edges_of side.near place) move < length side.cells = omega (arith, searched.solved.places, searched.can.room) in
                let there : lane_of rows lane (end_of (edges_of side.near place) move) ≡ lane_of side.tile.keys lane (end_of (edges_of side.near place) move) = key_read lane (end_of (edges_of side.near place) move) inside in
                let e = h.1 in
                (read move).1 (omega (arith, size, searched.can.room), omega arith)),
          );
    }
