use Rattle.std.proofs.Common.{◌≡◌, ◌/◌, ◌%◌, ◌∷◌, length, ap, arith}
use Rattle.path_run.proofs.spoken.frames_are_messages.Goals as goal

pub returns : goal.returns
returns c frame fits =
    let high : length frame / 256 ≡ length frame / 256 % 256 = omega (arith, fits) in
    ap (λ n. n ∷ length frame % 256 ∷ frame) high
