use Rattle.std.proofs.Common.{string_bytes, subst}
use Rattle.std.proofs.lemmas.Result.{IfOk-at_ok, on_ok_weaker}
use Rattle.moves.specs.Paths.{IsLeastCost}
use Rattle.walker.specs.Walks.{IsBegun}
use Rattle.path_replay.proofs.Telling.{says_refusal, says_walk}
use Rattle.path_replay.proofs.answers.push_answer.Goals as goal

pub returns-in-Err : goal.returns-in-Err
returns-in-Err c =
    on_ok_weaker c.write.result
    (says_refusal c.args.version.now c.args.start c.args.goal c.in-Err.why (string_bytes c.args.text.now) (string_bytes c.write.new.self) c.in-Err.ensures.refused)
    c.write.ensures.bytes

pub returns-in_ok-write-in-Ok-Some : goal.returns-in_ok-write-in-Ok-Some
returns-in_ok-write-in-Ok-Some c =
    let begun = subst (IsBegun c.args.version.now c.args.start c.args.goal) c.unwrap-walk.ensures
    (IfOk-at_ok (IsBegun c.args.version.now c.args.start c.args.goal) c.unwrap.ensures c.start.ensures.walk) in
    on_ok_weaker c.push_names.result
    (says_walk c.args.version.now c.args.start c.args.goal c.unwrap-walk.result c.in-Ok-Some.field-0-0
    (string_bytes c.args.text.now) (string_bytes c.write-in-Ok-Some.new.self) (string_bytes c.push_names.new.text)
    c.in-Ok-Some.ensures.ends begun
    (subst (IsLeastCost c.args.version.now.map c.args.start c.args.goal) c.in-Ok-Some.field-0-is c.in-Ok-Some.ensures.cost) c.in_ok-write-in-Ok-Some.ensures.bytes)
    c.push_names.ensures
