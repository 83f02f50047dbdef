use Rattle.std.proofs.Common.{◌<◌, length, refl, sym, ap, arith}
use Rattle.std.specs.Option.{option_map}
use Rattle.std.proofs.lemmas.Bool.{eqb-false}
use Rattle.text_lines.specs.Numbers.{capped}
use Rattle.text_lines.proofs.NumberLemmas.{no_number, read_more, read_no_digit, read_all}
use Rattle.text_lines.proofs.numbers.number_capped.Goals as goal

pub returns-then-is_empty : goal.returns-then-is_empty
returns-then-is_empty c = sym (ap (option_map (capped c.args.most)) (no_number c.args.word.now (sym c.if-is_empty.ensures)))

pub returns-then-not-is_ascii_digit : goal.returns-then-not-is_ascii_digit
returns-then-not-is_ascii_digit c =
    let none = read_no_digit c.args.most c.args.word.now c.loop-byte.byte-index c.loop-byte.number _
    c.loop-byte-test.true refl (sym c.if-not-is_ascii_digit.ensures.value) c.loop-byte.invariant in
    sym (ap (option_map (capped c.args.most)) none)

pub loop-byte-preserved : goal.loop-byte-preserved
loop-byte-preserved c =
    read_more c.args.most c.args.word.now c.loop-byte.byte-index c.loop-byte.number _ _
    c.loop-byte-test.true refl (sym c.if-not-is_ascii_digit.ensures.value)
    (omega (arith, c.min-number.ensures, c.from.ensures, c.from-cap.ensures)) c.loop-byte.invariant

pub returns : goal.returns
returns c =
    let some : 0 < length c.args.word.now = omega (arith, eqb-false (length c.args.word.now) 0 (sym c.if-is_empty.ensures)) in
    read_all c.args.most c.args.word.now c.loop-byte.byte-index c.loop-byte.number some c.loop-byte-test.false c.loop-byte.invariant
