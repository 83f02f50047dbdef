use Rattle.std.proofs.Common.{◌≡◌, ◌∙◌, sym, ap, arith}
use Rattle.std.proofs.lemmas.Option.{MatchOption-at_some}
use Rattle.moves.specs.Maps.{passable_count}
use Rattle.follow_node.proofs.EditBytes.{all_from}
use Rattle.follow_node.proofs.Frames.{HasTwo, same_map}
use Rattle.follow_node.proofs.starts.start_in.Goals as goal

pub returns-then-passable_count-gt-MAX_PASSABLE : goal.returns-then-passable_count-gt-MAX_PASSABLE
returns-then-passable_count-gt-MAX_PASSABLE c = λ m spells.
    let frame = c.args.frame.now in
    let has : HasTwo frame c.number_at-width.result c.number_at-height.result = record {
      long = omega (arith, c.if-frame-lt9.false);
      first = c.number_at-width.ensures;
      second = c.number_at-height.ensures;
      first_low = c.number_at-width.type_inv;
      second_low = c.number_at-height.type_inv;
    } in
    let read = MatchOption-at_some _ _ c.in-Some.terrain c.in-Some.is c.in_ok-terrain.ensures in
    let same = same_map frame c.number_at-width.result c.number_at-height.result has c.in-Some.terrain.items (sym (all_from 9 frame) ∙ read) m spells in
    let few = spells.0.searchable in
    let counted : passable_count c.in_ok-grid.grid ≡ passable_count m = ap passable_count (c.in_ok-grid.ensures ∙ sym same) in
    omega (arith, few, counted, c.passable_count.ensures, c.if-passable_count-gt-MAX_PASSABLE.true)
