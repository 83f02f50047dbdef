use Rattle.std.proofs.Common.{refl, sym, subst, arith}
use Rattle.live_maps.specs.Telling.{IsToldAhead}
use Rattle.live_maps.proofs.Along.{HasNoBit}
use Rattle.live_maps.proofs.Onward.{begins_at, told_apart, told_not_lost, writes_front, writes_whole}
use Rattle.live_maps.proofs.live_image.LiveImage.path_into.Goals as goal

pub returns-then-from-to-clause-path : goal.returns-then-from-to-clause-path
returns-then-from-to-clause-path c = λ version image. (
  told_apart c.args.self.now version image c.args.start c.args.goal c.in-Ok.homes.0 c.in-Ok.homes.1 c.in-Ok.ensures.from c.in-Ok.ensures.to c.if-from-to.true,
  refl,
)

pub returns-in-Whole-clause-path : goal.returns-in-Whole-clause-path
returns-in-Whole-clause-path c = λ version image.
    let walk = c.walk-walk.result.walk in
    let begun = begins_at c.args.self.now version image c.args.start c.args.goal c.image.result c.in-Ok.homes.0 c.in-Ok.homes.1 walk c.image.ensures.image
    c.walk-walk.ensures.begins c.in-Ok.ensures.from c.in-Ok.ensures.to c.if-from-to.false in
    let clear = subst (HasNoBit c.args.self.now) (sym c.walk-walk.ensures.at) c.in-Ok.ensures.clear in
    let told = subst (IsToldAhead c.args.self.now walk c.args.room.now c.put_free.new.room) c.in-Whole.is c.put_free.ensures in
    let fits = c.if-count-room.true in
    let long = c.put_free.auto.room in (
      writes_whole c.args.self.now version image c.args.start c.args.goal walk begun c.args.room.now c.put_free.new.room c.in-Whole.count told clear c.walk-walk.ensures.at,
      omega arith,
    )

pub returns-in-Whole-2-clause-fault : goal.returns-in-Whole-2-clause-fault
returns-in-Whole-2-clause-fault c = λ version image.
    let walk = c.walk-walk.result.walk in
    let begun = begins_at c.args.self.now version image c.args.start c.args.goal c.image.result c.in-Ok.homes.0 c.in-Ok.homes.1 walk c.image.ensures.image
    c.walk-walk.ensures.begins c.in-Ok.ensures.from c.in-Ok.ensures.to c.if-from-to.false in
    let clear = subst (HasNoBit c.args.self.now) (sym c.walk-walk.ensures.at) c.in-Ok.ensures.clear in
    let told = subst (IsToldAhead c.args.self.now walk c.args.room.now c.put_free.new.room) c.in-Whole.is c.put_free.ensures in
    let fits = c.if-count-room.false in
    let long = c.put_free.auto.room in (
      writes_whole c.args.self.now version image c.args.start c.args.goal walk begun c.args.room.now c.put_free.new.room c.in-Whole.count told clear c.walk-walk.ensures.at,
      omega arith,
    )

pub returns-in-Front-clause-path : goal.returns-in-Front-clause-path
returns-in-Front-clause-path c = λ version image.
    let walk = c.walk-walk.result.walk in
    let begun = begins_at c.args.self.now version image c.args.start c.args.goal c.image.result c.in-Ok.homes.0 c.in-Ok.homes.1 walk c.image.ensures.image
    c.walk-walk.ensures.begins c.in-Ok.ensures.from c.in-Ok.ensures.to c.if-from-to.false in
    let clear = subst (HasNoBit c.args.self.now) (sym c.walk-walk.ensures.at) c.in-Ok.ensures.clear in
    let told = subst (IsToldAhead c.args.self.now walk c.args.room.now c.put_free.new.room) c.in-Front.is c.put_free.ensures in
    writes_front c.args.self.now version image c.args.start c.args.goal walk begun c.args.room.now c.put_free.new.room c.in-Front.count told clear c.walk-walk.ensures.at

pub returns-in-Lost-clause-fault : goal.returns-in-Lost-clause-fault
returns-in-Lost-clause-fault c = λ version image.
    let walk = c.walk-walk.result.walk in
    let begun = begins_at c.args.self.now version image c.args.start c.args.goal c.image.result c.in-Ok.homes.0 c.in-Ok.homes.1 walk c.image.ensures.image
    c.walk-walk.ensures.begins c.in-Ok.ensures.from c.in-Ok.ensures.to c.if-from-to.false in
    let clear = subst (HasNoBit c.args.self.now) (sym c.walk-walk.ensures.at) c.in-Ok.ensures.clear in
    let told = subst (IsToldAhead c.args.self.now walk c.args.room.now c.put_free.new.room) c.in-Lost.is c.put_free.ensures in
    told_not_lost c.args.self.now version image c.args.start c.args.goal walk begun c.args.room.now c.put_free.new.room told clear
