use Rattle.std.proofs.Common.{◌≡◌, ◌*◌, ◌≤◌, length, take}
use Rattle.std.specs.List.{flat_map}
use Rattle.path_image.specs.Images.{table_of}
use Rattle.path_image.proofs.writing.tables_size.Given as goal

abbrev pub invariant-loop-label : goal.invariant-loop-label
invariant-loop-label l = record {
  size : l.size ≡ length (flat_map table_of (take l.label l.version.comps));
  few : l.size ≤ l.label * 2147483648;
}
