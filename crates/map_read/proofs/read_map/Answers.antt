use Rattle.std.proofs.Common.{◌≡◌, ℕ, List, Ok, length, drop, sym, ap, ◌∙◌, refl, arith}
use Rattle.std.proofs.lemmas.Result.{err_from_is_err_and}
use Rattle.std.proofs.lemmas.List.{take_at, length-drop}
use Rattle.moves.specs.declared.Terrain.{Terrain}
use Rattle.moves.specs.Maps.{Map}
use Rattle.map_read.specs.declared.fault.MapFault.TheVariants.{Extra}
use Rattle.map_read.proofs.MapLemmas.{map_bad_header, map_bad_rows, map_extra, map_whole}
use Rattle.text_lines.proofs.LineLemmas.{few_lines}
use Rattle.map_read.proofs.read_map.Goals as goal

pub returns-in_err-sides-clause-fault : goal.returns-in_err-sides-clause-fault
returns-in_err-sides-clause-fault c = λ f e.
    let p = err_from_is_err_and c.from_residual.result c.from_residual.ensures.1 in
    let same : f ≡ c.in_err-sides.field-0.0 = cc (p.1, p.2, e) in
    rw same (map_bad_header c.args.bytes.now c.of-lines.result (drop 4 c.of-lines.result) c.of-lines.ensures refl c.in_err-sides.field-0.0 c.in_err-sides.ensures.sides)

pub returns-in_err-read_rows-clause-fault : goal.returns-in_err-read_rows-clause-fault
returns-in_err-read_rows-clause-fault c = λ f e.
    let p = err_from_is_err_and c.from_residual-in_err-read_rows.result c.from_residual-in_err-read_rows.ensures.1 in
    let same : f ≡ c.in_err-read_rows.field-0.0 = cc (p.1, p.2, e) in
    rw same (map_bad_rows c.args.bytes.now c.of-lines.result c.read_header.new.lines c.of-lines.ensures
    c.in_ok-sides.ensures.rest c.in_ok-sides.sides.width c.in_ok-sides.sides.height c.in_ok-sides.ensures.sides
    c.in_err-read_rows.field-0.0 c.in_err-read_rows.ensures.cells)

pub first_extra-requires : goal.first_extra-requires
first_extra-requires c =
    let all = few_lines c.args.bytes.now in
    let first = ap (λ (ls : List (List ℕ)). length ls) c.of-lines.ensures in
    let after = ap (λ (ls : List (List ℕ)). length ls) c.in_ok-sides.ensures.rest in
    let rest = ap (λ (ls : List (List ℕ)). length ls) c.in_ok-read_rows.ensures.rest in
    let within = c.in_ok-sides.ensures.limits in
    omega (arith, within.rows, all, first, after, rest, length-drop 4 c.of-lines.result, length-drop c.in_ok-sides.sides.height c.read_header.new.lines, c.requires)

pub returns-in-Some-clause-fault : goal.returns-in-Some-clause-fault
returns-in-Some-clause-fault c = λ f e.
    let same : f ≡ Extra c.in-Some.line = cc in
    rw same (map_extra c.args.bytes.now c.of-lines.result c.read_header.new.lines c.of-lines.ensures
    c.in_ok-sides.ensures.rest c.in_ok-sides.sides.width c.in_ok-sides.sides.height c.in_ok-sides.ensures.sides
    c.read_rows.new.cells c.read_rows.new.lines c.in_ok-read_rows.ensures.cells c.in_ok-read_rows.ensures.rest c.in-Some.line (sym c.in-Some.ensures))

pub returns-clause-grid : goal.returns-clause-grid
returns-clause-grid c =
    let sides = c.in_ok-sides.sides in
    let whole = map_whole c.args.bytes.now c.of-lines.result c.read_header.new.lines c.of-lines.ensures
    c.in_ok-sides.ensures.rest sides.width sides.height c.in_ok-sides.ensures.sides
    c.read_rows.new.cells c.read_rows.new.lines c.in_ok-read_rows.ensures.cells c.in_ok-read_rows.ensures.rest (sym c.in_default.ensures) in
    let all = take_at c.read_rows.new.cells (drop (length c.read_rows.new.cells) c.in_ok-cells.cells.items) c.in_ok-cells.cells.len (c.read_rows.auto.cells ∙ c.deref_mut.ensures.len) in
    let made = λ (cells : List Terrain). let m : Map = record { width = sides.width; height = sides.height; terrain = cells } in m in
    whole ∙ ap (λ (m : Map). Ok m) (sym (c.in_ok-of_terrain.ensures ∙ ap made all))
