use Rattle.std.proofs.Common.{ℕ, ◌+◌, ◌*◌, ◌^◌, refl, sym, ap, ◌∙◌}
use Rattle.std.specs.Option.{option_map}
use Rattle.std.proofs.lemmas.List.{take_rest}
use Rattle.scen_read.proofs.LengthLemmas.{no_point, at_point_told}
use Rattle.scen_read.proofs.length.length_in.Goals as goal

pub returns-in_err-whole_in-clause-length : goal.returns-in_err-whole_in-clause-length
returns-in_err-whole_in-clause-length c =
    c.from_residual.ensures ∙ sym (no_point c.args.field.now c.in_default.ensures ∙ ap (option_map (λ (n : ℕ). n * 10 ^ 9)) (sym c.in_err-whole_in.ensures.whole))

pub returns-in_default-clause-length : goal.returns-in_default-clause-length
returns-in_default-clause-length c =
    sym (no_point c.args.field.now c.in_default.ensures ∙ ap (option_map (λ (n : ℕ). n * 10 ^ 9)) (sym c.in_ok-whole_in.ensures.whole))

pub returns-in_err-whole-clause-length : goal.returns-in_err-whole-clause-length
returns-in_err-whole-clause-length c =
    c.from_residual-in_err-whole.ensures
    ∙ sym (at_point_told c.args.field.now _ c.in-Some.point _ _ c.in-Some.ensures c.in_err-whole.ensures.whole refl refl)

pub returns-in_err-nanos-clause-length : goal.returns-in_err-nanos-clause-length
returns-in_err-nanos-clause-length c =
    c.from_residual-in_err-nanos.ensures
    ∙ sym (at_point_told c.args.field.now _ c.in-Some.point _ _ c.in-Some.ensures c.in_ok-whole.ensures.whole (take_rest c.args.field.now (c.in-Some.point + 1)) c.in_err-nanos.ensures.decimals)

pub returns-clause-length : goal.returns-clause-length
returns-clause-length c =
    sym (at_point_told c.args.field.now _ c.in-Some.point _ _ c.in-Some.ensures c.in_ok-whole.ensures.whole (take_rest c.args.field.now (c.in-Some.point + 1)) c.in_ok-nanos.ensures.decimals)
