use Rattle.std.proofs.Common.{◌<◌, length, arith}
use Rattle.path_image.proofs.Homes.{move_read}
use Rattle.path_image.proofs.Showing.{count_shown, size_shown}
use Rattle.path_image.proofs.reading.move_at.Goals as goal

pub returns : goal.returns
returns c = λ version image there.
    let count = count_shown c.args.words.now version image in
    let component = c.requires.home.component in
    let within : c.args.home.label < length version.comps = omega arith in
    let size = size_shown c.args.words.now version image c.args.home.label within in
    let place = c.requires.home.place_in in
    move_read c.args.words.now version image c.args.home.label c.args.home.place c.args.goal c.row.result.now _ _ _ _
    c.of.ensures c.find_word_move-number.ensures.limit c.unwrap_or_default.ensures within (omega arith) there c.row.ensures.row c.find_word_move-number.ensures.found
