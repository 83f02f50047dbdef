use Rattle.std.proofs.Common.{rules, arith, ◌<◌, ◌^◌, subst}
use Rattle.run_pack.specs.Sets.{Has}
use Rattle.run_pack.proofs.SetLemmas.{Has-below}
use Rattle.row_edit.proofs.Reading.{border_behind, move_read}
use Rattle.row_edit.proofs.PuttingIn.{with_opened, with_own}
use Rattle.row_edit.proofs.with_set.parts_from.Goals as goal

pub returns-in_default : goal.returns-in_default
returns-in_default c =
    let past = border_behind c.args.words.now c.args.places c.args.number c.in_default.ensures.lookup.3 in
    let word = c.least_word.ensures in
    with_own _ _ _ _ c.requires.few c.requires.place _ _ c.requires.number c.requires.here word.start word.least (λ inner. absurd (omega (arith, past, c.requires.here))) c.requires.cut

pub returns-then-has : goal.returns-then-has
returns-then-has c =
    let read = c.in-Some.ensures.lookup in
    let same = move_read c.args.words.now c.args.number c.in-Some.word.now read.3.0 read.1 in
    rw c.staying.ensures (with_opened _ _ _ _ c.requires.few c.requires.place _ read.3.0 c.requires.here (subst (λ move. Has c.args.put.set move) same (c.has.ensures c.if-has.true)) c.requires.cut)

pub returns-then-is_apart : goal.returns-then-is_apart
returns-then-is_apart c =
    let byte : c.args.put.set < 2 ^ 8 = search rules in
    with_own _ _ _ _ c.requires.few c.requires.place _ _ c.requires.number c.requires.here c.least_word.ensures.start c.least_word.ensures.least (λ inner sets all move own its.
    c.is_apart.ensures c.if-is_apart.true move own (c.most_at.ensures sets all move (Has-below _ move byte own) its)) c.requires.cut
