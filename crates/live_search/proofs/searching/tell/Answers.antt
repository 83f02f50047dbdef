use Rattle.std.proofs.Common.{arith}
use Rattle.live_search.proofs.Turning.{told_of}
use Rattle.live_search.proofs.searching.tell.Goals as goal

pub returns-in-Some : goal.returns-in-Some
returns-in-Some c = record {
  over = λ version start goal about sound begun.
      (let fits = c.if-length-room.true in
      let long = c.finish.auto.room in (
        told_of version c.args.live.now c.args.seek start goal about c.args.state.now sound begun c.requires.sought.first c.args.place c.args.room.now c.finish.new.room
            c.finish.result c.in-Some.length c.requires.last c.finish.ensures c.in-Some.is,
        omega arith,
      ));
}

pub returns-in-Some-2 : goal.returns-in-Some-2
returns-in-Some-2 c = record {
  over = λ version start goal about sound begun.
      (let few = c.if-length-room.false in
      let long = c.finish.auto.room in (
        told_of version c.args.live.now c.args.seek start goal about c.args.state.now sound begun c.requires.sought.first c.args.place c.args.room.now c.finish.new.room
            c.finish.result c.in-Some.length c.requires.last c.finish.ensures c.in-Some.is,
        omega arith,
      ));
}
