-- What is put where the work is done, and what is said of it before it is put.
use Rattle.std.specs.Prelude.{ℕ, List, Err, Ok, Option, Result}
use Rattle.path_file.specs.Files.{file_of}
use Rattle.path_commands.specs.declared.status.Status.{Status}
use Rattle.path_commands.specs.declared.status.Status.TheVariants as status
use Rattle.path_commands.specs.Serving.{Puts, PutsCause}
use Rattle.path_run.specs.declared.Printed.{Printed}
use Rattle.path_run.specs.declared.Printed.TheVariants as printed

-- its bytes
abbrev pub bytes_of : Printed → List ℕ
bytes_of (printed.Text text) = text
bytes_of (printed.File version) = file_of version

-- the answer was put, or the line of the status that stands for it
abbrev pub PutsAnswer : Result Printed Status → Option (List ℕ) → Option (List ℕ) → Status → Type 0
PutsAnswer (Ok told) before after ended = Puts before after (bytes_of told) status.Done ended
PutsAnswer (Err cause) before after ended = PutsCause before after cause ended
