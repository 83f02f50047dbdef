-- The rows of a version have the fewest runs.
use Rattle.std.proofs.Common.{◌≡◌, List, subst}
use Rattle.run_pack.specs.Runs.{Fits}
use Rattle.run_pack.proofs.Fewest.{HasFewest-from_tight}
use Rattle.moves.specs.Maps.{Map}
use Rattle.moves.specs.SamePaths.{HaveSameClasses}
use Rattle.moves.specs.FirstSetLists.{cell_of}
use Rattle.row_store.specs.Rows.{row_at}
use Rattle.row_store.proofs.RowLaws.{same_first_sets, components_keep_rows}
use Rattle.versions.specs.Databases.{component_at, comp_at}
use Rattle.versions.specs.FewestRuns.{VersionsHaveFewestRuns}
use Rattle.versions.proofs.BestWalks.{component_of, same_cells_kept}

same_classes : (map : Map) → HaveSameClasses map map
same_classes map = record {
  passable = λ cell. (λ free. free, λ free. free);
  alike = λ cell other free. (λ like. like, λ like. like);
}

pub versions_have_fewest_runs : VersionsHaveFewestRuns
versions_have_fewest_runs version is label within place inside = record {
  fewest = λ other names.
      let comp = comp_at version.comps label in
      let from = cell_of comp.cells place in
      let component = component_of version.map version.order version.comps is.database label within in
      let cells = same_cells_kept version.map version.order version.comps is.database label within in
      let rows = (is.database.each label within).whole.rows in
      let own = components_keep_rows version.map (component_at is.database.components label) comp.cells comp.rows component cells rows place inside in
      let same = same_first_sets version.map version.map from comp.cells names.sets own.sets (same_classes version.map) names.first own.first in
      (HasFewest-from_tight (row_at comp.rows place) own.sets own.tight).fewest other (subst (Fits other) same names.fits);
}
