use Rattle.std.proofs.Common.{refl}
use Rattle.std.proofs.lemmas.Result.{err_from_is_err_and}
use Rattle.path_file.specs.Fields.{at_order}
use Rattle.path_file.proofs.Opening.{cut_here, byte_here}
use Rattle.path_file.proofs.head.read_order.Goals as goal

pub returns-in_err-byte-clause-fault : goal.returns-in_err-byte-clause-fault
returns-in_err-byte-clause-fault c =
    let p = err_from_is_err_and c.from_residual.result c.from_residual.ensures.1 in
    rw (p.1, p.2) (cut_here c.args.reader.now (at_order c.args.width c.args.height c.args.prefix) (c.requires.limits, c.ranges.prefix.fits) c.requires.front _ 1 refl c.in_err-byte.ensures.cut)

pub returns-in-None-clause-fault : goal.returns-in-None-clause-fault
returns-in-None-clause-fault c =
    record {
      width = c.args.width;
      height = c.args.height;
      prefix = c.args.prefix;
      field = byte_here c.args.reader.now (at_order c.args.width c.args.height c.args.prefix) (c.requires.limits, c.ranges.prefix.fits) c.requires.front _ c.in_ok-byte.byte c.in_ok-byte.ensures.read;
      none = c.in-None.ensures.none;
    }
