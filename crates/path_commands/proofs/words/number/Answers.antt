use Rattle.std.proofs.Common.{◌≡◌, ◌∙◌, ap, true, false}
use Rattle.std.specs.Result.{result_ok}
use Rattle.path_commands.specs.Words.{is_number, number_in}
use Rattle.path_commands.proofs.NumberLemmas.{has_number, parsed}
use Rattle.path_commands.proofs.words.number.Goals as goal

pub returns-then-is_number : goal.returns-then-is_number
unfolding number_in
returns-then-is_number c =
    let is : is_number c.args.text.now ≡ true = cc in
    let read = parsed c.args.text.now c.parse.result c.parse.ensures.value.0 (has_number _ is) in
    rw is (c.ok.ensures.value ∙ ap result_ok read)

pub returns-else-is_number : goal.returns-else-is_number
unfolding number_in
returns-else-is_number c = let is : is_number c.args.text.now ≡ false = cc in rw is
