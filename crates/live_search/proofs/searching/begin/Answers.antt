use Rattle.std.proofs.Common.{subst}
use Rattle.live_search.specs.State.{Knows}
use Rattle.live_search.specs.Steps.{Notes}
use Rattle.live_search.proofs.Stepwise.{word_gives}
use Rattle.live_search.proofs.Turning.{begins_false, begins_true}
use Rattle.live_search.proofs.searching.begin.Goals as goal

pub returns-then-not-make_known-clause-begins : goal.returns-then-not-make_known-clause-begins
returns-then-not-make_known-clause-begins c =
    begins_false c.args.live.now c.args.seek c.args.ends.0 c.args.ends.1 c.clear.new.state c.list.new.state c.know.new.state c.make_known.new.state
    (word_gives c.word_of.result c.args.ends.1 c.word_of.ensures.word c.word_of.ensures.column c.word_of.ensures.row) c.requires.goal c.clear.ensures.none c.clear.ensures.listed
    c.list.ensures.lists (subst (Knows c.args.seek.size c.list.new.state c.know.new.state c.args.seek.goal.place 1) c.word_of.ensures.word c.know.ensures.knows)
    (subst (Notes c.args.live.now c.args.seek c.know.new.state c.make_known.new.state c.args.ends.0 c.args.seek.first) c.if-not-make_known.true c.make_known.ensures.notes)

pub returns-clause-begins : goal.returns-clause-begins
returns-clause-begins c =
    begins_true c.args.live.now c.args.seek c.args.ends.0 c.args.ends.1 c.clear.new.state c.list.new.state c.know.new.state c.make_known.new.state c.lower.new.state
    (word_gives c.word_of.result c.args.ends.1 c.word_of.ensures.word c.word_of.ensures.column c.word_of.ensures.row) c.requires.goal c.requires.sought.first c.clear.ensures.none
    c.clear.ensures.listed c.list.ensures.lists (subst (Knows c.args.seek.size c.list.new.state c.know.new.state c.args.seek.goal.place 1) c.word_of.ensures.word c.know.ensures.knows)
    (subst (Notes c.args.live.now c.args.seek c.know.new.state c.make_known.new.state c.args.ends.0 c.args.seek.first) c.if-not-make_known.false c.make_known.ensures.notes)
    c.lower.ensures.lowers
