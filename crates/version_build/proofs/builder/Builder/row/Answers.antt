use Rattle.std.proofs.Common.{◌∙◌}
use Rattle.std.proofs.lemmas.List.{get_or_default}
use Rattle.version_build.specs.Builders.{no_part}
use Rattle.version_build.proofs.RowByRow.{part_open, under_way_more}
use Rattle.version_build.proofs.builder.Builder.row.Goals as goal

pub push_row-requires-clause-component : goal.push_row-requires-clause-component
push_row-requires-clause-component c =
    let less = rw c.deref.ensures.value at c.first_open-self-inside.ensures.below in
    let some = rw c.deref.ensures.value at c.first_open-self-inside.ensures.left in
    let read = c.index_mut.ensures.value ∙ get_or_default c.self.inside.parts.items c.first_open-self-inside.result c.index_mut.result.now no_part less in
    rw read (part_open _ _ _ _ _ _ c.self.invariant.0 _ less some).component_of

pub push_row-requires-clause-few : goal.push_row-requires-clause-few
push_row-requires-clause-few c =
    let less = rw c.deref.ensures.value at c.first_open-self-inside.ensures.below in
    let some = rw c.deref.ensures.value at c.first_open-self-inside.ensures.left in
    let read = c.index_mut.ensures.value ∙ get_or_default c.self.inside.parts.items c.first_open-self-inside.result c.index_mut.result.now no_part less in
    rw read (part_open _ _ _ _ _ _ c.self.invariant.0 _ less some).few

pub invariant_of-self-2 : goal.invariant_of-self-2
invariant_of-self-2 c =
    let less = rw c.deref.ensures.value at c.first_open-self-inside.ensures.below in
    let some = rw c.deref.ensures.value at c.first_open-self-inside.ensures.left in
    let done = rw c.deref.ensures.value at c.first_open-self-inside.ensures.done in
    let read = c.index_mut.ensures.value ∙ get_or_default c.self.inside.parts.items c.first_open-self-inside.result c.index_mut.result.now no_part less in
    let push = rw read at c.in_ok-push_row.ensures.ok in (
      under_way_more _ _ _ _ _ _ c.self.invariant.0 _ less some done _ push,
      rw c.push_row.ensures.room c.self.invariant.1,
    )
