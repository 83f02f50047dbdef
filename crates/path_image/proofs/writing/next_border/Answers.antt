use Rattle.std.proofs.Common.{◌+◌, [], arith}
use Rattle.row_store.proofs.CompLaws.{few_runs}
use Rattle.path_image.specs.Images.{row_words}
use Rattle.path_image.proofs.Parts.{flat_more}
use Rattle.path_image.proofs.Sizes.{flat_front, runs_size}
use Rattle.std.proofs.lemmas.List.{length-map}
use Rattle.run_pack.specs.Runs.{word_of}
use Rattle.row_store.specs.Rows.{row_at}
use Rattle.path_image.proofs.writing.next_border.Goals as goal

pub overflow_add-result : goal.overflow_add-result
overflow_add-result c =
    let rows = c.args.comp.now.rows in
    let whole = c.requires.whole.rows.whole in
    let place = c.requires.place in
    let more = flat_more row_words rows c.args.place [] (omega arith) in
    let words = length-map (row_at rows c.args.place) word_of in
    let front = flat_front row_words rows (c.args.place + 1) in
    let runs = runs_size rows in
    let few = few_runs c.args.comp.now c.requires.whole in
    let border = c.requires.border in
    let len = c.row_len.ensures in
    omega arith
