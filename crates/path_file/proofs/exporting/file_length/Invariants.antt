use Rattle.std.proofs.Common.{◌≡◌, ◌+◌, length, map, take}
use Rattle.std.specs.Arc.{arc_value}
use Rattle.std.specs.List.{sum_by}
use Rattle.path_file.proofs.LengthLemmas.{comp_length}
use Rattle.path_file.proofs.exporting.file_length.Given as goal

abbrev pub invariant-loop-comp : goal.invariant-loop-comp
invariant-loop-comp l = l.count ≡ 21 + length l.fn.version.map.terrain + sum_by comp_length (take l.comp-index (map arc_value l.comps))
