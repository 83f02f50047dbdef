use Rattle.std.proofs.Common.{◌≢◌, inl, rules, subst, sym}
use Rattle.std.specs.Io.KnownBytes.{Appends}
use Rattle.wire.specs.Contents.{PutsPrefix}
use Rattle.path_commands.specs.declared.status.Status.TheVariants as status
use Rattle.bake_run.proofs.BakeLemmas.{told_text}
use Rattle.bake_run.proofs.output.refuse.Goals as goal

pub returns-in-Usage-clause-cut : goal.returns-in-Usage-clause-cut
returns-in-Usage-clause-cut g c = λ cut. (status.Usage, inl (sym c.in-Usage.is), rw (c.as_bytes.ensures.value, c.usage.ensures) at (c.put.ensures.cut cut))

pub returns-in_default : goal.returns-in_default
returns-in_default g c =
    let other : c.args.status ≢ status.Usage = search rules in
    record {
      whole = λ written.
          let put = c.refuse.ensures.whole written in
          (put.0, subst (Appends (g.O.Sink.bytes c.args.out.now) (g.O.Sink.bytes c.refuse.new.out)) (told_text c.args.status c.refuse.result other put.0) put.1);
      cut = λ cut.
          let put = c.refuse.ensures.cut cut in
          (put.0, put.1, subst (PutsPrefix (g.O.Sink.bytes c.args.out.now) (g.O.Sink.bytes c.refuse.new.out)) (told_text c.args.status put.0 other put.1) put.2);
      fault = c.refuse.ensures.fault;
    }
