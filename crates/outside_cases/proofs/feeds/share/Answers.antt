use Rattle.std.proofs.Common.{◌∙◌, ◌++◌, ap}
use Rattle.std.specs.Option.{option_to_list}
use Rattle.outside_cases.proofs.Sharing.{pass_shared}
use Rattle.outside_cases.proofs.feeds.share.Goals as goal

pub returns-in-Ok : goal.returns-in-Ok
returns-in-Ok c = record {
  pass = pass_shared _ c.args.board c.unwrap-pass.result c.in-Ok.passes.items c.pop.new.self.items c.in-Ok.ensures.ok
      (c.pop.ensures.items ∙ ap (λ o. c.pop.new.self.items ++ option_to_list o) c.unwrap-pass.ensures);
}
