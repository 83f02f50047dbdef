use Rattle.std.proofs.Common.{◌-◌, ◌≤◌, ◌∙◌, ap, drop, length, arith}
use Rattle.wire.proofs.Inboxes.{few_of, length_between, rest_between}
use Rattle.wire.proofs.inbox.Inbox.take.Goals as goal

pub returns-clause-rest : goal.returns-clause-rest
returns-clause-rest c =
    let room = c.self.inside.room in
    let from = c.self.inside.from in
    let to = c.self.inside.to in
    let inside = c.self.invariant in
    let within : to ≤ length room = omega (arith, inside.1, c.self.told) in
    let few : c.min-count.result ≤ to - from = few_of _ _ _ _ c.min-count.ensures (length_between room from to inside.0 within) in
    rest_between room from to inside.0 within c.min-count.result few ∙ ap (drop c.min-count.result) c.self.view_is
