-- What the system hands to the program.
use Rattle.std.specs.Prelude.{◌≡◌, ◌≢◌, List, drop, Result, Ok, Err, String, Vec}
use Rattle.std.specs.Borrow.{Bor}
use Rattle.std.specs.Global.{Global}
use Rattle.std.specs.IoError.{error_kind}
use Rattle.std.specs.declared.io.Error.{Error}
use Rattle.std.specs.declared.io.ErrorKind.TheVariants.{OutOfMemory}
use Rattle.path_commands.specs.declared.request.RequestError.{RequestError}
use Rattle.path_commands.specs.declared.request.RequestError.TheVariants as error

-- an error while the arguments were read is `NoMemory`, or else they are not text
abbrev pub IsErrorOf : Error → RequestError → Type 0
IsErrorOf why error.NoMemory = error_kind why ≡ OutOfMemory
IsErrorOf why error.Usage = error_kind why ≢ OutOfMemory

-- the words are the arguments after the first one, which is the program's own name
abbrev pub AreWordsOf : Result (Vec (String Global) Global) Error
    → Result (Bor (List (String Global))) RequestError → Type 0
AreWordsOf (Ok arguments) (Ok words) = words.now ≡ drop 1 arguments.items
AreWordsOf (Err why) (Err told) = IsErrorOf why told
AreWordsOf _ _ = ⊥
