use Rattle.std.proofs.Common.{◌≡◌, ℕ, ◌+◌, ◌≤◌, Bool, true, false, cond, refl, sym, subst, ap, ◌∙◌, arith}
use mir.Val.{bool_byte}
use Rattle.std.proofs.lemmas.Result.{err_from_is_err_and}
use Rattle.moves.specs.declared.TheConstants.{MAX_PASSABLE}
use Rattle.moves.specs.Maps.{is_passable}
use Rattle.path_file.proofs.GroundLemmas.{ground_none, ground_bad, ground_cut, ground_more}
use Rattle.path_file.proofs.ground.read_cells.Goals as goal

byte_of : (b : Bool) → bool_byte b ≡ cond b 1 0
byte_of true = refl
byte_of false = refl

pub loop-place-init : goal.loop-place-init
loop-place-init c = ground_none c.args.reader.now c.args.head c.args.cells.now c.requires.front

pub returns-in_err-byte-clause-fault : goal.returns-in_err-byte-clause-fault
returns-in_err-byte-clause-fault c =
    let p = err_from_is_err_and c.from_residual.result c.from_residual.ensures.1 in
    rw (p.1, p.2) (ground_cut c.args.reader.now c.loop-place.reader c.args.head c.loop-place.cells c.loop-place.place c.loop-place.free c.requires.head (c.loop-place.auto.cells ∙ c.requires.whole)
    c.loop-place.invariant (omega arith) _ c.in_err-byte.ensures.cut)

pub returns-in_err-terrain-clause-fault : goal.returns-in_err-terrain-clause-fault
returns-in_err-terrain-clause-fault c =
    let p = err_from_is_err_and c.from_residual-in_err-terrain.result c.from_residual-in_err-terrain.ensures.1 in
    rw (p.1, p.2) (ground_bad c.args.reader.now c.loop-place.reader c.args.head c.loop-place.cells c.loop-place.place c.loop-place.free c.requires.head (c.loop-place.auto.cells ∙ c.requires.whole)
    c.loop-place.invariant (omega arith) _ c.in_ok-byte.byte _ c.in_ok-byte.ensures.read c.in_err-terrain.ensures.fault)

pub loop-place-preserved : goal.loop-place-preserved
loop-place-preserved c =
    let count : c.loop-place.free + c.from-free.result ≡ c.loop-place.free + cond (is_passable c.in_ok-terrain.terrain) 1 0 =
    ap (λ n. c.loop-place.free + n) (c.from-free.ensures ∙ byte_of c.is_passable.result ∙ ap (λ b. cond {A = ℕ} b 1 0) c.is_passable.ensures) in
    ground_more c.args.reader.now c.loop-place.reader c.args.head c.loop-place.cells c.loop-place.place c.loop-place.free c.requires.head (c.loop-place.auto.cells ∙ c.requires.whole)
    c.loop-place.invariant (omega arith) _ c.in_ok-byte.byte c.in_ok-terrain.terrain _ c.in_ok-byte.ensures.read c.in_ok-terrain.ensures.terrain count
    (subst (λ n. n ≤ MAX_PASSABLE) (sym count) c.in_ok-terrain.ensures.few)
