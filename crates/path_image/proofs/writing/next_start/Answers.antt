use Rattle.std.proofs.Common.{◌+◌, length, ap, ◌∙◌, arith}
use Rattle.versions.specs.Databases.{no_comp}
use Rattle.path_image.specs.Images.{table_of}
use Rattle.path_image.proofs.Parts.{flat_more}
use Rattle.path_image.proofs.Sizes.{flat_front}
use Rattle.path_image.proofs.writing.next_start.Goals as goal

pub overflow_add-result : goal.overflow_add-result
overflow_add-result c =
    let comps = c.args.version.now.comps in
    let more = flat_more table_of comps c.args.label no_comp c.requires.label in
    let front = flat_front table_of comps (c.args.label + 1) in
    let size = c.table_size.ensures.size ∙ ap (λ comp. length (table_of comp)) c.comp_at.ensures in
    let start = c.requires.start in
    let limit = c.requires.limit in
    omega arith
