-- What no call on a board changes.
use Rattle.path_core.specs.Boards.{Boarded}
use Rattle.path_board.specs.declared.state.Foundation.{Foundation}

-- the first map, the order and the room of a board
abbrev pub foundation_of : Boarded → Foundation
foundation_of board = record { start = board.start; order = board.order; room = board.room }
