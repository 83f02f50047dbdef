use Rattle.std.proofs.Common.{◌≡◌, ◌+◌, ◌<◌, ◌≤◌, length, get_or, arith, rules}
use Rattle.std.proofs.lemmas.List.{get_or_read}
use Rattle.components.proofs.Lookups.{how_many, cells_at}
use Rattle.components.proofs.Labels.cells.Goals as goal
use Rattle.components.proofs.Labels.cells.Goals.{After-deref}

pub index-requires : goal.index-requires
index-requires c = omega (arith, c.self.inside.starts.ok.0, how_many _ _ _ _ _ c.self.invariant _ c.self.view_is)

pub index-requires-2 : goal.index-requires-2
index-requires-2 c = omega (arith, c.self.inside.starts.ok.0, how_many _ _ _ _ _ c.self.invariant _ c.self.view_is)

inside : (c : After-deref) → c.args.label + 1 < length c.self.inside.starts.items
inside c = omega (arith, c.self.inside.starts.ok.0, how_many _ _ _ _ _ c.self.invariant _ c.self.view_is)

start : (c : After-deref) → c.index.result.now ≡ get_or c.self.inside.starts.items c.args.label 0
start c =
    let i = inside c in
    let within : c.args.label < length c.self.inside.starts.items = omega arith in
    get_or_read _ _ _ within c.index.ensures 0

end : (c : After-deref) → c.index-2.result.now ≡ get_or c.self.inside.starts.items (c.args.label + 1) 0
end c = get_or_read _ _ _ (inside c) c.index-2.ensures 0

pub slice_bounds-result-count : goal.slice_bounds-result-count
slice_bounds-result-count c =
    let d = (goal.at.slice_bounds-result-count c).After-deref in
    omega (arith, start d, end d, c.self.invariant.grouped.rising c.args.label (inside d))

pub slice_bounds-result-start : goal.slice_bounds-result-start
slice_bounds-result-start c =
    let d = (goal.at.slice_bounds-result-start c).After-deref in
    let i = inside d in
    let low : c.index.result.now ≤ length c.deref.result.now =
    omega (arith, start d, c.deref.ensures.len, c.self.inside.cells.ok.0, c.self.invariant.grouped.within c.args.label (omega arith)) in
    let rises : c.index.result.now ≤ c.index-2.result.now = omega (arith, start d, end d, c.self.invariant.grouped.rising c.args.label i) in
    search rules

pub slice_bounds-result-end : goal.slice_bounds-result-end
slice_bounds-result-end c =
    let d = (goal.at.slice_bounds-result-end c).After-deref in
    let i = inside d in
    let high : c.index-2.result.now ≤ length c.deref.result.now =
    omega (arith, end d, c.deref.ensures.len, c.self.inside.cells.ok.0, c.self.invariant.grouped.within (c.args.label + 1) i) in
    let rises : c.index.result.now ≤ c.index-2.result.now = omega (arith, start d, end d, c.self.invariant.grouped.rising c.args.label i) in
    search rules

pub returns : goal.returns
returns c =
    let d = (goal.at.returns c).After-deref in
    rw (start d, end d, c.deref.ensures.value) (cells_at _ _ _ _ _ c.self.invariant _ c.self.view_is c.args.label c.requires)
