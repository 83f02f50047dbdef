use Rattle.std.proofs.Common.{◌∙◌, sym, subst}
use Rattle.std.specs.Arc.{arc_value}
use Rattle.std.proofs.lemmas.Result.{IfOk-weaker}
use Rattle.moves.specs.Maps.{IsSearchable}
use Rattle.follow_node.specs.Hearing.{IsNextVersion, IsVersionOf}
use Rattle.follow_node.proofs.NextVersions.{inside, next_made, searchable, within}
use Rattle.follow_node.proofs.building.next_version.Goals as goal

pub job-requires : goal.job-requires
job-requires c =
    within c.args.board.now _ c.prefix.result c.entries.ensures.legal c.version-held.ensures.value c.version-held.ensures.version c.prefix.ensures

pub apply-requires : goal.apply-requires
apply-requires c = record {
  inside = inside c.args.board.now _ c.prefix.result c.entries.ensures.legal c.version-held.ensures.value c.version-held.ensures.version c.prefix.ensures
      c.in_ok-job.job c.in_ok-grid.grid c.in_ok-job.ensures.job (c.in_ok-grid.ensures ∙ c.grid.ensures.map);
}

pub build_version-requires : goal.build_version-requires
build_version-requires c =
    subst IsSearchable (sym c.apply.ensures)
    (searchable c.args.board.now _ c.prefix.result c.entries.ensures.legal c.version-held.ensures.value c.version-held.ensures.version c.prefix.ensures
    c.in_ok-job.job c.in_ok-grid.grid c.in_ok-job.ensures.job (c.in_ok-grid.ensures ∙ c.grid.ensures.map))

pub returns : goal.returns
returns c =
    IfOk-weaker c.build_version.result (λ v. IsVersionOf c.apply.new.grid c.in_ok-job.job.prefix c.kind.result (arc_value v))
    (λ v. IsNextVersion c.args.board.now (arc_value v))
    (λ v of. next_made c.args.board.now _ c.prefix.result c.entries.ensures.legal c.version-held.ensures.value c.version-held.ensures.version
    c.prefix.ensures c.in_ok-job.job c.in_ok-grid.grid c.in_ok-job.ensures.job (c.in_ok-grid.ensures ∙ c.grid.ensures.map) (arc_value v)
    c.apply.new.grid c.kind.result c.apply.ensures c.kind.ensures of)
    c.build_version.ensures
