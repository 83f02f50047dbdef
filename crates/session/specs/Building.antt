-- What a build takes from a board, and what it makes of it.
use Rattle.std.specs.Prelude.{◌≡◌, ◌<◌, List}
use Rattle.edit_log.specs.Edits.{map_after}
use Rattle.versions.specs.Counts.{AreCounts}
use Rattle.versions.specs.Databases.{Versioned, IsVersion}
use Rattle.version_build.specs.declared.plans.BuildReport.{BuildReport}
use Rattle.path_core.specs.declared.entry.Entry.{Entry}
use Rattle.path_core.specs.declared.board.Job.{Job}
use Rattle.path_core.specs.Histories.{accepted_count, published_prefix}
use Rattle.session.specs.Desks.{AddsNone, IsJobAt}
use Rattle.session.specs.Standing.{AtDesk, Meanwhile}

-- the pass looked, and holds the version that was published then; the job has the edits past those of this version
pub record IsTaken (old new : AtDesk) (job : Job) : Type 0 where
  pub looked : List Entry
  pub to_look : Meanwhile old.place old.seen looked
  pub to_job : Meanwhile old.place looked new.seen
  pub held_is : new.version.prefix ≡ published_prefix looked
  pub edits : IsJobAt old.place new.seen new.version.prefix job

-- no job was taken, though there are accepted edits past those of the held version
pub record TakesNone (old new : AtDesk) : Type 0 where
  pub others : AddsNone old new
  pub more : new.version.prefix < accepted_count new.seen

-- the version after the edits of a job, in the order of the held one, and what was built and kept of it
pub record IsBuiltAfter (held : Versioned) (job : Job) (report : BuildReport) (next : Versioned) : Type 0 where
  pub map : next.map ≡ map_after held.map job.edits.edits
  pub prefix : next.prefix ≡ job.prefix
  pub order : next.order ≡ held.order
  pub whole : IsVersion next
  pub counts : AreCounts held.map next.map report.built report.kept
