use Rattle.std.proofs.Common.{◌*◌, ◌≤◌, arith, sym, subst, inl, inr}
use Rattle.grid_search.proofs.Keeping.{same_room}
use Rattle.first_sets.proofs.Filling.{few_settled}
use Rattle.first_sets.proofs.Keeping.{filled_again}
use Rattle.first_sets.proofs.FirstSets.fill.Goals as goal

pub fill-requires-clause-reach : goal.fill-requires-clause-reach
fill-requires-clause-reach c =
    let map = c.args.grid.now in
    let room = subst (λ f. map.width * map.height ≤ f.room) (sym c.self.view_is) c.requires.room in
    let has = c.requires.searched in
    elim c.self.invariant.reach_room [
      | inl all ↦ let some = few_settled map c.args.source c.args.search.now has c.requires.source in omega arith
      | inr most ↦ let some = has.counted in let few = has.few in omega arith
    ]

pub invariant_of-self : goal.invariant_of-self
invariant_of-self c =
    let map = c.args.grid.now in
    let room = subst (λ f. map.width * map.height ≤ f.room) (sym c.self.view_is) c.requires.room in
    record {
      fits = rw (c.width-self-inside.ensures.width, c.height-self-inside.ensures.height, c.fill.ensures.length) room;
      reach_room = same_room _ _ _ _ c.fill.ensures.length c.fill.ensures.reach c.self.invariant.reach_room;
    }

pub returns-clause-filled : goal.returns-clause-filled
returns-clause-filled c =
    filled_again c.args.grid.now c.args.source _ _ _ _ c.width-self-inside.ensures.width c.height-self-inside.ensures.height c.fill.ensures.first
