use Rattle.path_client.proofs.Numbered.{number_low}
use Rattle.path_client.proofs.heard.MoveList.of_numbers.Goals as goal

pub move_of-requires : goal.move_of-requires
move_of-requires c = number_low c.args.numbers.now c.loop-number.number-index 0 c.requires c.loop-number-test.true
