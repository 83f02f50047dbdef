use Rattle.std.proofs.Common.{◌∙◌}
use Rattle.scen_read.proofs.FieldLemmas.{tab_found}
use Rattle.scen_read.proofs.fields.has_tab.Goals as goal

pub returns : goal.returns
returns c = c.is_some.ensures ∙ tab_found c.args.text.now c.first_tab.result c.first_tab.ensures
