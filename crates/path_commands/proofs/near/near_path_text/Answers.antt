use Rattle.path_commands.proofs.Writing.{tells_path}
use Rattle.path_commands.proofs.near.near_path_text.Goals as goal

pub returns : goal.returns
returns c = λ moves ahead. tells_path _ _ _ _ _ c.in_ok-text.ensures (c.in_ok-push_near_moves.ensures moves ahead) c.in_ok-push_str.ensures.bytes
