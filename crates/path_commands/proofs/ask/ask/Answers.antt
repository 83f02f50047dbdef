use Rattle.std.proofs.Common.{◌≢◌, inl, rules, string_bytes}
use Rattle.path_commands.specs.declared.status.Status.TheVariants as status
use Rattle.path_commands.proofs.AskLemmas.{breaks_line, puts_line}
use Rattle.path_commands.proofs.ask.ask.Goals as goal

-- what was put before the output failed is a first part of the answer
pub returns-in-Ok-clause-cut : goal.returns-in-Ok-clause-cut
returns-in-Ok-clause-cut g c = λ cut. inl (
  c.put.ensures.fault cut,
  record {
    ended = status.Done;
    text = string_bytes c.in-Ok.text;
    right = c.in-Ok.ensures.heard;
    put = rw c.as_bytes.ensures.value at (c.put.ensures.cut cut);
  },
)

pub returns-in-Err-clause-whole : goal.returns-in-Err-clause-whole
returns-in-Err-clause-whole g c = λ whole.
    let other : c.in-Err.status ≢ status.WriteFault = search rules in
    let put = c.refuse.ensures.whole whole in
    puts_line _ _ _ c.in-Err.status c.refuse.result _ _ c.in-Err.ensures.fault other put.0 put.1

pub returns-in-Err-clause-cut : goal.returns-in-Err-clause-cut
returns-in-Err-clause-cut g c = λ cut.
    let other : c.in-Err.status ≢ status.WriteFault = search rules in
    let put = c.refuse.ensures.cut cut in
    inl (c.refuse.ensures.fault cut, breaks_line _ _ _ c.in-Err.status put.0 _ _ c.in-Err.ensures.fault other put.1 put.2)
