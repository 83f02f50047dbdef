use Rattle.std.proofs.Common.{◌≡◌, ◌+◌, None, All, length, map, sym, ap, subst, ◌∙◌, arith}
use Rattle.std.specs.Arc.{arc_value}
use Rattle.std.specs.Option.{option_map}
use Rattle.std.proofs.lemmas.List.{length-map, length_push}
use Rattle.versions.proofs.Counting.{sum_is}
use Rattle.version_build.proofs.Missing.{missing_all}
use Rattle.version_build.proofs.Sharing.{none_prepared, none_push}
use Rattle.version_build.proofs.planning.share_none.Goals as goal

pub loop-preserved : goal.loop-preserved
loop-preserved c =
    let pushed = c.in_ok-push.ensures.items in (
      subst (λ xs. All (λ comp. comp ≡ None) (map (option_map arc_value) xs)) (sym pushed) (none_push arc_value c.loop.comps.items c.loop.invariant.0),
      ap length pushed ∙ (length_push c.loop.comps.items None ∙ ap (λ n. n + 1) c.loop.invariant.1),
    )

pub returns-clause-prepared : goal.returns-clause-prepared
returns-clause-prepared c =
    none_prepared _ _ _ c.loop.invariant.0 (omega (arith, length-map c.loop.comps.items (option_map arc_value), c.loop.invariant.1, c.loop-test.false, c.count-end.ensures))

pub returns-clause-missing : goal.returns-clause-missing
returns-clause-missing c =
    c.passable_count.ensures ∙ sym (missing_all _ _ c.loop.invariant.0 (omega (arith, length-map c.loop.comps.items (option_map arc_value), c.loop.invariant.1, c.loop-test.false, c.count-end.ensures))
    ∙ sum_is _ c.width.ensures.limits c.width.ensures.whole _ c.requires)
