use Rattle.kept_rows.proofs.GateLoops.{leads_read}
use Rattle.kept_rows.proofs.gates.is_kept_in.Goals as goal

pub returns : goal.returns
returns c = λ back. leads_read _ _ _ _ _ _ _ _ c.place_past.ensures.past c.edges.ensures c.requires.size (c.lead_back.ensures back)
