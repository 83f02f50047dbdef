use Rattle.std.proofs.Common.{Err, ap, refl, ◌∙◌, ◌++◌, ◌∷◌, []}
use Rattle.path_commands.specs.Asks.{RunHouse, house_over}
use Rattle.path_commands.specs.Serving.{ear_over}
use Rattle.node_commands.specs.Leadings.{feed_asked}
use Rattle.node_commands.proofs.LeadLemmas.{can_be_led, leads_doors, leads_nowhere, opened_again}
use Rattle.node_commands.proofs.leading.lead_on.Goals as goal

pub lead_at-requires-clause-can : goal.lead_at-requires-clause-can
lead_at-requires-clause-can g c κs within = can_be_led
    (house_over g.H.Door.Door.at g.H.Conn.Link.at (g.H.House.at c.args.house.now) (g.H.House.at c.open.new.house))
    c.args.leading.doors c.args.leading.feed c.in-Ok.opened.doors.items c.in-Ok.opened.feed c.in-Ok.ensures.opened c.requires.doors c.requires.unlent _
    c.in-Ok.ensures.given c.args.leading.board _ c.args.leading.workers _ c.requires.unedited c.requires.start c.requires.workers c.requires.waiting

-- the house in the end is the one behind both of its calls
pub returns-in-Ok-clause-ends : goal.returns-in-Ok-clause-ends
returns-in-Ok-clause-ends g c =
    let now = g.H.House.at c.lead_at.new.house in
    let house : RunHouse _ _ = house_over g.H.Door.Door.at g.H.Conn.Link.at (g.H.House.at c.args.house.now) now in
    let given : RunHouse _ _ = house_over g.H.Door.Door.at g.H.Conn.Link.at (g.H.House.at c.open.new.house) now in
    leads_doors house given (ear_over (g.E.Ear.at c.args.ear.now) (g.E.Ear.at c.lead_at.new.ear)) c.args.leading.board c.args.leading.doors c.args.leading.feed
    c.in-Ok.opened.doors.items c.in-Ok.opened.feed _ _ c.lead_at.result
    (ap (λ before. house_over g.H.Door.Door.at g.H.Conn.Link.at before now) c.in-Ok.ensures.given)
    (c.lead_at.ensures.asked ∙ ap (λ at. at.asked) c.in-Ok.ensures.given
    ∙ ap (λ asked. (asked ++ c.args.leading.doors ∷ []) ++ feed_asked c.args.leading.feed ∷ []) c.requires.unasked)
    (opened_again
    (house_over g.H.Door.Door.at g.H.Conn.Link.at (g.H.House.at c.args.house.now) (g.H.House.at c.open.new.house))
    house c.args.leading.doors c.args.leading.feed c.in-Ok.opened.doors.items c.in-Ok.opened.feed refl c.in-Ok.ensures.opened)
    c.lead_at.ensures.ends

pub returns-in-Err-clause-ends : goal.returns-in-Err-clause-ends
returns-in-Err-clause-ends g c = leads_nowhere
    (house_over g.H.Door.Door.at g.H.Conn.Link.at (g.H.House.at c.args.house.now) (g.H.House.at c.open.new.house))
    (ear_over (g.E.Ear.at c.args.ear.now) (g.E.Ear.at c.args.ear.now)) c.args.leading.board c.args.leading.doors c.args.leading.feed
    c.in-Err.error c.from.result c.put_cause.result _ _ c.in-Err.ensures.refused (λ same. c.in-Err.ensures.cause (ap Err same)) c.from.ensures
    (record { rung = refl; unshut = c.requires.waiting }) c.put_cause.ensures.put
