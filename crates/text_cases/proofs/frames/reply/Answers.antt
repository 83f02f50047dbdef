use Rattle.text_cases.proofs.Sending.{can_be_sent}
use Rattle.text_cases.proofs.frames.reply.Goals as goal

pub reply_said-requires : goal.reply_said-requires
reply_said-requires c = can_be_sent c.in-Ok.reply _ c.in-Ok.ensures.reply
