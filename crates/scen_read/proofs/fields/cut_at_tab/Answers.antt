use Rattle.std.proofs.Common.{◌+◌}
use Rattle.std.proofs.lemmas.List.{take_rest}
use Rattle.scen_read.proofs.FieldLemmas.{tab_cut, tab_last}
use Rattle.scen_read.proofs.fields.cut_at_tab.Goals as goal

pub returns-in-Some : goal.returns-in-Some
returns-in-Some c = rw (take_rest c.args.text.now (c.in-Some.end + 1), c.without_gaps.ensures) (tab_cut c.args.text.now c.in-Some.end c.in-Some.ensures)

pub returns-in-None : goal.returns-in-None
returns-in-None c = rw c.without_gaps-in-None.ensures (tab_last c.args.text.now c.in-None.ensures)
