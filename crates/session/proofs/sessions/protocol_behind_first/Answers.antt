use Rattle.std.proofs.Common.{◌∙◌}
use Rattle.session.proofs.Protocols.{first_read, first_unread}
use Rattle.session.proofs.sessions.protocol_behind_first.Goals as goal

pub returns-in-Ok : goal.returns-in-Ok
returns-in-Ok c = c.protocol_of.ensures ∙ first_read c.in-Ok.request c.args.frame.now c.in-Ok.ensures.request

pub returns-in-Err : goal.returns-in-Err
returns-in-Err c = first_unread c.args.frame.now c.in-Err.field-0 c.in-Err.ensures.malformed
