-- Two passes of a board of three blocked cells. Only tests have them.
use Rattle.std.specs.Prelude.{◌≡◌, [], Some}
use Rattle.atomic_table.specs.Seated.{TableId}
use Rattle.turn_book.specs.Turns.{made_of}
use Rattle.moves.specs.Maps.{blocked_map}
use Rattle.cell_order.specs.declared.OrderKind.TheVariants.{Rows}
use Rattle.path_core.specs.Boards.{Boarded}
use Rattle.path_board.specs.declared.pass.Pass.{Pass}
use Rattle.path_board.specs.Passes.{base_by, IsPassOf}

-- a board with no entries on three blocked cells, whose versions have the order of the rows
pub record IsBlankBoard (board : Boarded) : Type 0 where
  pub start : board.start ≡ blocked_map 3 1
  pub order : board.order ≡ Rows
  pub none : board.history ≡ []

-- the passes of such a board that two share
pub record ArePair (id : TableId) (a b : Pass) : Type 0 where
  pub first_of : IsPassOf id a
  pub second_of : IsPassOf id b
  pub first : a.number ≡ 0
  pub second : b.number ≡ 1
  pub last : made_of b.seat ≡ Some 2
  pub start : (base_by a).start ≡ blocked_map 3 1
  pub order : (base_by a).order ≡ Rows
