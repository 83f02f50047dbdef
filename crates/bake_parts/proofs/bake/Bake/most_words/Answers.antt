use Rattle.bake_parts.proofs.Parting.{most_words}
use Rattle.bake_parts.proofs.bake.Bake.most_words.Goals as goal

pub returns-clause-some : goal.returns-clause-some
returns-clause-some c =
    let found = c.in_ok-component.ensures in
    rw (c.from.ensures, c.cells.ensures) (most_words _ c.args.sources c.in_ok-component.component.now found.some found.has)
