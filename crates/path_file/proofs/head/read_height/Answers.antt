use Rattle.std.proofs.Common.{refl, inr}
use Rattle.std.proofs.lemmas.Result.{err_from_is_err_and}
use Rattle.std.proofs.lemmas.Bool.{iff_false}
use Rattle.moves.specs.Maps.{IsWithinLimits}
use Rattle.path_file.specs.Fields.{at_height}
use Rattle.path_file.proofs.Opening.{cut_here, number_here}
use Rattle.path_file.proofs.head.read_height.Goals as goal

pub returns-in_err-height-clause-fault : goal.returns-in_err-height-clause-fault
returns-in_err-height-clause-fault c =
    let p = err_from_is_err_and c.from_residual.result c.from_residual.ensures.1 in
    rw (p.1, p.2) (cut_here c.args.reader.now (at_height c.args.width) c.requires.side c.requires.front _ 4 refl c.in_err-height.ensures.cut)

pub returns-then-not-are_sides-clause-fault : goal.returns-then-not-are_sides-clause-fault
returns-then-not-are_sides-clause-fault c =
    inr (record {
      width = c.args.width;
      field = number_here c.args.reader.now (at_height c.args.width) c.requires.side c.requires.front _ c.in_ok-height.height
          (λ n. IsWithinLimits c.args.width n → ⊥) c.in_ok-height.ensures.fits c.in_ok-height.ensures.read (iff_false c.are_sides.ensures c.if-not-are_sides.true);
    })
