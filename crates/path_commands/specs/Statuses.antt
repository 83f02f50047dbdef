-- The line and the exit status of each status.
use Rattle.std.specs.Prelude.{ℕ, List, [], ◌++◌, codes}
use Rattle.std.specs.Fmt.{decimal}
use Rattle.map_read.specs.Faults.{fault_text}
use Rattle.scen_read.specs.Faults.{fault_text as scenario_fault_text}
use Rattle.path_file.specs.declared.fault.DbError.{DbError}
use Rattle.path_file.specs.declared.fault.DbError.TheVariants as db
use Rattle.path_file.specs.Texts.{fault_text as db_fault_text}
use Rattle.path_client.specs.declared.fault.ClientFault.{ClientFault}
use Rattle.path_client.specs.declared.fault.ClientFault.TheVariants as client
use Rattle.session.specs.declared.sessions.SessionFault.{SessionFault}
use Rattle.session.specs.declared.sessions.SessionFault.TheVariants as fault
use Rattle.path_commands.specs.declared.request.RequestError.{RequestError}
use Rattle.path_commands.specs.declared.request.RequestError.TheVariants as error
use Rattle.path_commands.specs.declared.status.Status.{Status}
use Rattle.path_commands.specs.declared.status.Status.TheVariants as status
use Rattle.versions.specs.Queries.{refusal_text}
use Rattle.walk_rows.specs.declared.WalkError.{WalkError}
use Rattle.walk_rows.specs.declared.WalkError.TheVariants as walk
use Rattle.path_commands.specs.Texts.{line}

-- the line of a status, without its end; nothing where a text of its own was printed, where the
-- output fails, and where a session broke off
abbrev pub status_words : Status → List ℕ
status_words status.Done = []
status_words status.Usage = codes "usage: path check scen made replay talk serve ask export verify near nearpath lead follow"
status_words (status.Map fault) = codes "map refused: " ++ fault_text fault
status_words (status.Scen fault) = codes "scenario refused: " ++ scenario_fault_text fault
status_words (status.Query refusal) = refusal_text refusal
status_words status.ReadFault = codes "read fault"
status_words status.WriteFault = []
status_words status.NoMemory = codes "out of memory"
status_words (status.TooLong limit) = codes "file too long: " ++ decimal limit
status_words (status.Events line) = codes "events refused: line " ++ decimal line
status_words (status.Broken fault) = []
status_words status.BadAnswer = codes "bad answer"
status_words (status.Db fault) = codes "database refused: " ++ db_fault_text fault
status_words status.LeaderMemory = codes "leader out of memory"

-- the same as a line
abbrev pub status_text : Status → List ℕ
status_text status = line (status_words status)

-- the exit status of the process
abbrev pub status_code : Status → ℕ
status_code status.Done = 0
status_code status.Usage = 1
status_code (status.Map fault) = 2
status_code (status.Scen fault) = 3
status_code (status.Query refusal) = 4
status_code status.ReadFault = 5
status_code status.WriteFault = 6
status_code status.NoMemory = 7
status_code (status.TooLong limit) = 8
status_code (status.Broken fault) = 9
status_code status.BadAnswer = 10
status_code (status.Events line) = 11
status_code (status.Db fault) = 12
status_code status.LeaderMemory = 13

-- the status of words that ask for nothing
abbrev pub status_of : RequestError → Status
status_of error.Usage = status.Usage
status_of error.NoMemory = status.NoMemory

-- the status where no walk is told
abbrev pub status_of_walk : WalkError → Status
status_of_walk (walk.Refused why) = status.Query why
status_of_walk walk.NoMemory = status.NoMemory

-- the status where a file is not that of a database
abbrev pub status_of_db : DbError → Status
status_of_db (db.Fault fault) = status.Db fault
status_of_db db.NoMemory = status.NoMemory

-- the status of a session that ended in a fault
abbrev pub status_for : SessionFault → Status
status_for (fault.Torn have want) = status.Broken (fault.Torn have want)
status_for (fault.TooLong size) = status.Broken (fault.TooLong size)
status_for fault.ReadFault = status.ReadFault
status_for fault.WriteFault = status.WriteFault

-- the status where nothing was heard of a server
abbrev pub status_heard : ClientFault → Status
status_heard client.Malformed = status.BadAnswer
status_heard (client.Closed have) = status.BadAnswer
status_heard (client.OldServer kind) = status.BadAnswer
status_heard client.ReadFault = status.ReadFault
status_heard client.WriteFault = status.WriteFault
status_heard client.NoMemory = status.NoMemory
