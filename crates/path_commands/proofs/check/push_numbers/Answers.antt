use Rattle.path_commands.proofs.Writing.{numbers_written}
use Rattle.path_commands.proofs.check.push_numbers.Goals as goal

pub returns : goal.returns
returns c = numbers_written _ _ _ _ _ _ _ _ _ c.from.ensures c.from-2.ensures c.in_ok-push_number.ensures c.in_ok-push_number-2.ensures c.in_ok-push_number-3.ensures
