use Rattle.std.proofs.Common.{◌≡◌, ◌*◌, ◌≤◌, ◌∙◌, take, length, refl, ap, sym, subst, arith}
use Rattle.std.proofs.lemmas.List.{take_at}
use Rattle.grid_search.specs.Keys.{HasNoKeys}
use Rattle.grid_search.specs.Queues.{opened}
use Rattle.grid_search.proofs.Forgetting.{none_left}
use Rattle.grid_search.proofs.Found.{searched}
use Rattle.grid_search.proofs.Keeping.{same_room, kept_after, kept_fields, searched_fields}
use Rattle.grid_search.proofs.Search.from_source.Goals as goal

pub settle-self-inside-requires-clause-unused : goal.settle-self-inside-requires-clause-unused
settle-self-inside-requires-clause-unused c =
    let same : c.deref_mut-2.result.now ≡ c.forget.new.keys =
    c.deref_mut-2.ensures.value ∙ take_at _ _ _ (omega (arith, c.forget.auto.keys, c.deref_mut.ensures.len)) in
    let written = rw (← c.deref_mut.ensures.value, ← c.deref.ensures.value) at c.self.invariant.written in
    let none : HasNoKeys c.forget.new.keys = none_left _ _ _ _ written c.forget.ensures in
    subst HasNoKeys (sym same) none

-- the lists keep their lengths
keys_kept : (c : goal.After-self-6-1) → length c.settle-self-inside.new.keys ≡ c.self.inside.keys.len
keys_kept c = c.settle-self-inside.auto.keys ∙ c.deref_mut-2.ensures.len

order_kept : (c : goal.After-self-6-1) → length c.settle-self-inside.new.order ≡ c.self.inside.order.len
order_kept c = c.settle-self-inside.auto.order ∙ c.deref_mut-3.ensures.len

keys_long : (c : goal.After-self-6-1) → length c.settle-self-inside.new.keys ≡ length c.self.inside.keys.items
keys_long c =
    let keys : length c.deref_mut.result.now ≡ length c.self.inside.keys.items = ap length c.deref_mut.ensures.value in
    omega (arith, keys_kept c, c.deref_mut.ensures.len)

fits : (c : goal.After-self-6-1) → c.args.grid.now.width * c.args.grid.now.height ≤ length c.settle-self-inside.new.keys
fits c =
    let has : c.args.grid.now.width * c.args.grid.now.height ≤ c.self.inside.keys.len = rw (← c.self.view_is) at c.requires.room in
    omega (arith, keys_kept c)

pub invariant_of-self : goal.invariant_of-self
invariant_of-self c =
    let front = opened c.settle-self-inside.new.keys c.settle-self-inside.new.list in
    let order = c.settle-self-inside.new.order in
    let ends = c.settle-self-inside.ensures in
    let straight = same_room _ _ _ _ (keys_long c) ends.straight c.self.invariant.straight_room in
    let diagonal = same_room _ _ _ _ (keys_long c) ends.diagonal c.self.invariant.diagonal_room in
    let room = same_room _ _ _ _ (keys_long c) (c.settle-self-inside.auto.order ∙ ap length c.deref_mut-3.ensures.value) c.self.invariant.order_room in
    let counted : c.settle-self-inside.result ≤ length order = omega (arith, ends.count, c.settle-self-inside.auto.order) in
    kept_fields c.args.grid.now front order _ _ _ _ _ c.width-self-inside.ensures.width c.height-self-inside.ensures.height
    (ap (λ keys. opened keys c.settle-self-inside.new.list) (take_at _ _ _ (keys_kept c))) (take_at _ _ _ (order_kept c))
    (kept_after _ c.args.source _ (take c.settle-self-inside.result order) c.width-self-inside.ensures.limits c.requires.source c.requires.cells
    ends.finished front order c.settle-self-inside.result refl refl (fits c) straight diagonal room counted)

pub returns-clause-searched : goal.returns-clause-searched
returns-clause-searched c =
    let keys = c.settle-self-inside.new.keys in
    let order = c.settle-self-inside.new.order in
    let done = searched c.args.grid.now c.args.source keys (take c.settle-self-inside.result order) c.requires.source c.requires.cells
    c.settle-self-inside.ensures.finished _ (fits c) in
    searched_fields c.args.grid.now c.args.source keys order _ _ _ _ _ _ c.width-self-inside.ensures.width c.height-self-inside.ensures.height
    (take_at _ _ _ (keys_kept c)) (take_at _ _ _ (order_kept c)) done
