use Rattle.follow_node.proofs.Spellings.{frames_spell_one_message}
use Rattle.follow_node.proofs.laws.frames_spell_one_message.Goals as goal

pub returns : goal.returns
returns c = frames_spell_one_message
