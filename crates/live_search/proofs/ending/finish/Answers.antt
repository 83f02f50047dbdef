use Rattle.std.proofs.Common.{◌≡◌, sym, ap, subst, ◌∙◌}
use Rattle.std.proofs.lemmas.Bool.{false≢true}
use Rattle.path_image.specs.declared.reading.Home.{Home}
use Rattle.path_image.specs.Reading.{IsCellIn, cell_of_word}
use Rattle.path_image.specs.Strides.{BeginsBetween}
use Rattle.path_image.proofs.Homes.{inside_image}
use Rattle.live_search.specs.Ends.{LeadsBy}
use Rattle.live_search.specs.Sound.{at}
use Rattle.live_search.proofs.Stepwise.{ahead_few}
use Rattle.live_search.proofs.Turning.{count_is, finishes_with, some_is}
use Rattle.live_search.proofs.ending.finish.Goals as goal

pub returns-then-not-has : goal.returns-then-not-has
returns-then-not-has c = λ version start goal about sound known few free.
    let cell : c.cell_of-cell.result ≡ at c.args.state.now c.args.seek c.args.place = c.cell_of-cell.ensures ∙ ap cell_of_word c.cell_at.ensures in
    let inside = inside_image c.args.live.now.words version about.image (at c.args.state.now c.args.seek c.args.place) (sound.cells c.args.place c.requires.place known).passable.inside in
    absurd (false≢true (sym c.if-not-has.true
    ∙ c.has.ensures.1 (subst (λ w. IsCellIn w c.cell_of-cell.result) (sym c.image.ensures.image) (subst (IsCellIn c.args.live.now.words) (sym cell) inside))))

pub returns-in_err-before : goal.returns-in_err-before
returns-in_err-before c = λ version start goal about sound known few free.
    let chain = c.chain_length.ensures.chain version c.args.live.now start goal about sound known few in
    absurd (some_is chain.0 (sym c.in_err-before.was ∙ chain.1))

pub put_rest-requires-clause-before : goal.put_rest-requires-clause-before
put_rest-requires-clause-before c = c.in_ok-before.ensures.limit

pub returns : goal.returns
returns c = λ version start goal about sound known few free.
    let state = c.args.state.now in
    let walk = c.walk-walk.result in
    let here : c.cell_of-cell.result ≡ at state c.args.seek c.args.place = c.cell_of-cell.ensures ∙ ap cell_of_word c.cell_at.ensures in
    let chain = c.chain_length.ensures.chain version c.args.live.now start goal about sound known few in
    let same : chain.0 ≡ c.in_ok-before.before = count_is c.chain_length.result chain.0 c.in_ok-before.before chain.1 c.in_ok-before.was in
    let leads = subst (λ n. LeadsBy c.args.seek state n c.args.place chain.2) same chain.3 in
    let over = c.walk-walk.ensures.over ∙ c.image-2.ensures.image in
    let from : Home = record { label = c.args.seek.goal.label; place = c.args.place } in
    let between : BeginsBetween c.args.live.now.words (at state c.args.seek c.args.place) from c.args.seek.goal.place walk.walk =
    subst (λ cell. BeginsBetween c.args.live.now.words cell from c.args.seek.goal.place walk.walk) here
    (subst (λ w. BeginsBetween w c.cell_of-cell.result from c.args.seek.goal.place walk.walk) c.image-2.ensures.image c.walk-walk.ensures.begins) in
    let begins = between version goal about.image (sound.cells c.args.place c.requires.place known) about.to in
    finishes_with version c.args.live.now c.args.seek start goal about state sound c.args.place c.in_ok-before.before chain.2 walk c.args.room.now c.put_chain.new.room
    c.put_rest.new.room c.put_rest.result c.requires.place known few free leads (c.put_chain.ensures chain.2 leads) over begins
    (ahead_few c.args.live.now c.args.seek walk.walk (ap (λ h. h.label) c.walk-walk.ensures.home) c.requires.sought.size version start goal about) c.put_rest.ensures
