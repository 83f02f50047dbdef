use Rattle.std.proofs.Common.{refl, arith}
use Rattle.path_file.proofs.PutLemmas.{bytes_more, bytes_refused, on_err}
use Rattle.path_file.proofs.exporting.put_bytes.Goals as goal

pub returns-in_err-put_byte-clause-prefix : goal.returns-in_err-put_byte-clause-prefix
returns-in_err-put_byte-clause-prefix g c =
    on_err _ _ (bytes_refused c.args.bytes.now _ _ _ c.args.buffer.now c.loop-byte.buffer c.loop-byte.byte-index c.loop-byte.invariant.written (omega arith)
    _ refl c.in_err-put_byte.ensures.prefix)

pub loop-byte-preserved : goal.loop-byte-preserved
loop-byte-preserved g c = record {
  written = bytes_more c.args.bytes.now _ _ _ c.args.buffer.now c.loop-byte.buffer c.loop-byte.byte-index c.loop-byte.invariant.written (omega arith)
      _ _ refl c.in_ok-put_byte.ensures.put;
  later = omega (arith, c.loop-byte.invariant.later, c.in_ok-put_byte.ensures.later);
}
