use Rattle.std.proofs.Common.{◌<◌, sym, subst, ◌∙◌, arith}
use Rattle.std.proofs.lemmas.Bool.{false≢true}
use Rattle.path_image.specs.Answers.{IsBlockedIn, IsHomeIn}
use Rattle.path_image.specs.Reading.{StandsIn, size_at, start_in}
use Rattle.path_image.specs.Walks.{IsNoCellBehind}
use Rattle.live_search.proofs.Reaching.{nowhere_apart, nowhere_blocked, nowhere_marked, nowhere_outside, place_there}
use Rattle.live_search.proofs.expanding.place_behind.Goals as goal

pub returns-in-None : goal.returns-in-None
returns-in-None c =
    let few = c.requires.sought.few in
    nowhere_outside c.args.live.now c.args.seek c.args.cell c.args.by 4294967295 (omega arith)
    (subst (λ w. IsNoCellBehind w c.args.cell c.args.by) c.image-image.ensures.image c.in-None.ensures.none)

pub returns-in-None-home : goal.returns-in-None-home
returns-in-None-home c =
    let few = c.requires.sought.few in
    nowhere_blocked c.args.live.now c.args.seek c.args.cell c.args.by 4294967295 (omega arith) c.in-Some.to c.in-Some.ensures.target
    (subst (λ w. IsBlockedIn w c.in-Some.to) c.image-image.ensures.image c.in-None-home.ensures.blocked)

pub returns-then-home-seek : goal.returns-then-home-seek
returns-then-home-seek c =
    let few = c.requires.sought.few in
    nowhere_apart c.args.live.now c.args.seek c.args.cell c.args.by 4294967295 (omega arith) c.in-Some.to c.in-Some-home.home c.in-Some.ensures.target
    (subst (λ w. IsHomeIn w c.in-Some.to c.in-Some-home.home) c.image-image.ensures.image c.in-Some-home.ensures.home) c.if-home-seek.true

pub returns-then-is_marked : goal.returns-then-is_marked
returns-then-is_marked c =
    let few = c.requires.sought.few in
    nowhere_marked c.args.live.now c.args.seek c.args.cell c.args.by 4294967295 (omega arith) c.in-Some.to c.in-Some.ensures.target
    (λ clear. false≢true (sym clear ∙ sym c.is_marked.ensures ∙ c.if-is_marked.true))

pub returns-else-is_marked : goal.returns-else-is_marked
returns-else-is_marked c =
    let stands = subst (λ w. StandsIn w c.in-Some-home.home.label c.in-Some-home.home.place) c.image-image.ensures.image c.in-Some-home.ensures.stands in
    let here : c.in-Some-home.home.place < size_at c.args.live.now.words (start_in c.args.live.now.words c.args.seek.goal.label) =
    subst (λ l. c.in-Some-home.home.place < size_at c.args.live.now.words (start_in c.args.live.now.words l)) c.if-home-seek.false stands.place_in in
    let size = c.requires.sought.size in
    place_there c.args.live.now c.args.seek c.args.cell c.args.by c.in-Some.to c.in-Some-home.home c.in-Some.ensures.target
    (subst (λ w. IsHomeIn w c.in-Some.to c.in-Some-home.home) c.image-image.ensures.image c.in-Some-home.ensures.home) c.if-home-seek.false
    (sym c.is_marked.ensures ∙ c.if-is_marked.false) (omega arith)
