use Rattle.std.proofs.lemmas.List.{take_rest}
use Rattle.scen_read.proofs.FieldLemmas.{space_last, space_next, space_end}
use Rattle.scen_read.proofs.fields.cut_at_spaces.Goals as goal

pub returns-in_default : goal.returns-in_default
returns-in_default c = space_last c.args.text.now c.in_default.ensures

pub returns-in-Some-first_other : goal.returns-in-Some-first_other
returns-in-Some-first_other c =
    let text = c.args.text.now in
    rw (take_rest _ c.in-Some-first_other.next) (space_next text _ c.in-Some.end c.in-Some-first_other.next c.in-Some.ensures (take_rest text c.in-Some.end) c.in-Some-first_other.ensures)

pub returns-in-None : goal.returns-in-None
returns-in-None c =
    let text = c.args.text.now in
    space_end text _ c.in-Some.end c.in-Some.ensures (take_rest text c.in-Some.end) c.in-None.ensures
