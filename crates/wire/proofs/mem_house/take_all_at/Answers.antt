use Rattle.std.proofs.Common.{◌≡◌, ◌+◌, ◌<◌, ◌++◌, ◌∷◌, [], List, vec_len, rules, sym, ap, ◌∙◌, arith}
use Rattle.std.proofs.lemmas.List.Elements.{All-push, All-same}
use Rattle.wire.specs.DoorInMemory.{DoorInMemory}
use Rattle.wire.specs.HouseInMemory.{IsGivenDoor, first_at}
use Rattle.wire.proofs.Selecting.{given_door, more_given, more_gone, one_left}
use Rattle.wire.proofs.mem_house.take_all_at.Goals as goal

pub take_at-door-requires-clause-there : goal.take_at-door-requires-clause-there
take_at-door-requires-clause-there c =
    let few : vec_len c.loop-doors.given < c.args.count = omega (arith, c.len.ensures, c.loop-doors-test.true) in
    one_left c.args.port (vec_len c.loop-doors.given) c.args.count c.args.doors.now.items
    c.loop-doors.doors.items c.loop-doors.invariant.gone few c.requires.there

pub loop-doors-preserved : goal.loop-doors-preserved
loop-doors-preserved c =
    let inv = c.loop-doors.invariant in
    let port = c.args.port in
    let given = c.loop-doors.given in
    let before = c.args.doors.now.items in
    let between = c.loop-doors.doors.items in
    let door = c.open_at.new.self in
    let len : vec_len c.push.new.self ≡ vec_len given + 1 = search rules in
    let items : c.push.new.self.items ≡ given.items ++ door ∷ [] = search rules in
    let new_door = given_door port c.take_at-door.result door c.open_at.ensures c.take_at-door.ensures.new in
    record {
      within = search rules;
      room = search rules;
      given = items ∙ ap (λ (ds : List DoorInMemory). ds ++ door ∷ []) inv.given
          ∙ ap (λ (d : DoorInMemory). first_at port (vec_len given) before ++ d ∷ []) c.open_at.ensures
          ∙ sym (more_given port (vec_len given) before between c.take_at-door.result _ inv.gone c.take_at-door.ensures.first)
          ∙ ap (λ n. first_at port n before) (sym len);
      gone = rw len (more_gone port (vec_len given) before between c.take_at-door.new.doors.items inv.gone c.take_at-door.ensures.gone);
      len = search rules;
      new = All-same (IsGivenDoor port) _ _ items (All-push (IsGivenDoor port) given.items door inv.new new_door);
      made = c.take_at-door.ensures.made;
    }
