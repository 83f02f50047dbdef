use Rattle.std.proofs.Common.{◌≡◌, ℕ, ◌+◌, length, get_or, sym, ap, subst, ◌∙◌, IfSome, Some, arith}
use Rattle.moves.specs.declared.Cell.{Cell}
use Rattle.moves.specs.declared.Move.{Move}
use Rattle.grid_search.specs.Keys.{move_key}
use Rattle.walk_rows.specs.Walks.{IsAlone}
use Rattle.walk_rows.proofs.Finding.{IsAloneSoFar, alone_if_some, filler, so_far_none, so_far_one, so_far_past}
use Rattle.walk_rows.proofs.forced.forced_move.Goals as goal
use Rattle.walk_rows.proofs.forced.forced_move.Goals.{then-comes_down+in-None, else-comes_down}

pub loop-by-init : goal.loop-by-init
loop-by-init c = record {
  near = rw c.as_slice-by-items.ensures.value c.neighbours-beside.ensures;
  wide = c.width-width.ensures.width;
  keys = c.keys-keys.ensures;
  key = c.key_at-key.ensures;
  alone = so_far_none _ _ _ _ _;
}

pub loop-by-preserved : goal.loop-by-preserved
loop-by-preserved c =
    let found = c.as_slice-by-items.result.now in
    let n = c.loop-by.by-index in
    let known = c.loop-by.invariant in
    elim c.if-comes_down.branch [
      | then-comes_down+in-None w ↦
          let none = subst (IsAloneSoFar _ _ _ found n) w.in-None.is known.alone in
          let more = so_far_one _ _ _ found n filler c.loop-by-test.true none in
          record { near = known.near; wide = known.wide; keys = known.keys; key = known.key; alone = subst (IsAloneSoFar _ _ _ found (n + 1)) (sym w.alone-is) more }
      | else-comes_down w ↦
          let more = so_far_past _ _ _ found n filler c.loop-by.alone c.loop-by-test.true known.alone
          (λ down. c.comes_down.ensures w.if-comes_down.false (ap (λ k. k + move_key (get_or found n filler).0) c.key_at.ensures ∙ down)) in
          record { near = known.near; wide = known.wide; keys = known.keys; key = known.key; alone = subst (IsAloneSoFar _ _ _ found (n + 1)) (sym w.alone-is) more }
    ]

pub returns : goal.returns
returns c =
    let found = c.as_slice-by-items.result.now in
    let known = c.loop-by.invariant in
    let last : c.loop-by.by-index ≡ length found = omega arith in
    let whole = subst (λ n. IsAloneSoFar c.width-width.result c.keys-keys.result.now c.key_at-key.result found n c.loop-by.alone) last known.alone in
    subst (λ keys. IfSome c.loop-by.alone (IsAlone c.args.grid.now keys c.args.from)) known.keys
    (alone_if_some c.args.grid.now c.args.from c.keys-keys.result.now _ _ found c.loop-by.alone known.near known.wide known.key whole)
