-- Where and how a pass of a shared board stands.
use Rattle.std.specs.Prelude.{Some}
use Rattle.turn_book.specs.Turns.{book_of, made_of}
use Rattle.path_board.specs.declared.pass.Pass.{Pass}
use Rattle.path_board.specs.Passes.{base_by, held_of, looks_of, seen_of}
use Rattle.session.specs.Standing.{AtDesk, Place, Standing, stands}

-- the place of a pass
abbrev pub place_of : Pass → Place
place_of pass = record {
  pass = pass.number;
  start = (base_by pass).start;
  order = (base_by pass).order;
  room = (base_by pass).room;
  shared = Some (record { board = book_of pass.seat; passes = made_of pass.seat });
}

-- what is known of the desk of a pass
abbrev pub desk_of : Pass → AtDesk
desk_of pass = record {
  place = place_of pass;
  seen = seen_of pass;
  version = held_of pass;
  looks = Some (looks_of pass);
}

-- how a pass stands
abbrev pub standing_of : Pass → Standing
standing_of pass = stands (desk_of pass)
