use Rattle.std.proofs.Common.{refl, inl}
use Rattle.std.proofs.lemmas.Result.{err_from_is_err_and}
use Rattle.std.proofs.lemmas.Bool.{iff_false}
use Rattle.path_file.specs.Fields.{IsSide, at_width}
use Rattle.path_file.proofs.Opening.{cut_here, number_here}
use Rattle.path_file.proofs.head.read_width.Goals as goal

pub returns-in_err-width-clause-fault : goal.returns-in_err-width-clause-fault
returns-in_err-width-clause-fault c =
    let p = err_from_is_err_and c.from_residual.result c.from_residual.ensures.1 in
    rw (p.1, p.2) (cut_here c.args.reader.now at_width tt c.requires.front _ 4 refl c.in_err-width.ensures.cut)

pub returns-then-not-is_side-clause-fault : goal.returns-then-not-is_side-clause-fault
returns-then-not-is_side-clause-fault c =
    inl (number_here c.args.reader.now at_width tt c.requires.front _ c.in_ok-width.width (λ n. IsSide n → ⊥) c.in_ok-width.ensures.fits c.in_ok-width.ensures.read (iff_false c.is_side.ensures c.if-not-is_side.true))
