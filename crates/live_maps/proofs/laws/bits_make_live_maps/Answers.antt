use Rattle.live_maps.proofs.Blocking.{bits_block, bits_make_live}
use Rattle.live_maps.proofs.laws.bits_make_live_maps.Goals as goal

pub returns-clause-live : goal.returns-clause-live
returns-clause-live c = bits_make_live

pub returns-clause-cells : goal.returns-clause-cells
returns-clause-cells c = bits_block
