-- The lines that a replay prints, one for each event: the number of the pass, and what is said of the event.
use Rattle.std.specs.Prelude.{ℕ, List, ◌++◌, codes, flat_map}
use Rattle.std.specs.Fmt.{decimal}
use Rattle.root_cost.specs.declared.Cost.{Cost}
use Rattle.moves.specs.declared.Move.{Move}
use Rattle.moves.specs.Moves.{move_name}
use Rattle.moves.specs.Paths.{cost_of}
use Rattle.edit_log.specs.Verdicts.{refusal_text as edit_text}
use Rattle.versions.specs.Queries.{refusal_text}
use Rattle.versions.specs.Answers.{Answer, refused, unreachable, path}
use Rattle.path_replay.specs.declared.reply.Reply.{Reply}
use Rattle.path_replay.specs.declared.reply.Reply.TheVariants.{Accepted, Refused, Looked, NothingNew, Job, NoRow, RowLeft, NoJob, NotReady, Overtaken, Published, Halting, Halted}

-- what is said of an event that is no query
abbrev pub reply_text : Reply → List ℕ
reply_text (Accepted count) = codes "accepted " ++ decimal count
reply_text (Refused why) = edit_text why
reply_text (Looked prefix accepted) = codes "version " ++ decimal prefix ++ codes " accepted " ++ decimal accepted
reply_text (NothingNew prefix) = codes "nothing new " ++ decimal prefix
reply_text (Job prefix rows) = codes "job " ++ decimal prefix ++ codes " rows " ++ decimal rows
reply_text NoRow = codes "no row"
reply_text (RowLeft left) = codes "row left " ++ decimal left
reply_text NoJob = codes "no job"
reply_text (NotReady left) = codes "not ready " ++ decimal left
reply_text (Overtaken by) = codes "overtaken " ++ decimal by
reply_text (Published prefix built kept) =
    codes "published " ++ decimal prefix ++ codes " built " ++ decimal built ++ codes " kept " ++ decimal kept
reply_text Halting = codes "halting"
reply_text Halted = codes "halted"

-- the names of moves, a space before each
abbrev pub names_text : List Move → List ℕ
names_text moves = flat_map (λ move. codes " " ++ move_name move) moves

-- the cost and the moves of a path: `cost 2 0 moves E E`
abbrev pub path_text : Cost → List Move → List ℕ
path_text cost moves =
    codes "cost " ++ decimal cost.straight ++ codes " " ++ decimal cost.diagonal ++ codes " moves" ++ names_text moves

-- what is said of the answer to a query
abbrev pub answer_text : Answer → List ℕ
answer_text (refused why) = refusal_text why
answer_text unreachable = codes "unreachable"
answer_text (path moves) = path_text (cost_of moves) moves

-- what is said of a query, answered by the version after so many edits
abbrev pub query_text : ℕ → Answer → List ℕ
query_text prefix answer = codes "version " ++ decimal prefix ++ codes " " ++ answer_text answer

-- a line: `4 halting`
abbrev pub pass_line : ℕ → List ℕ → List ℕ
pass_line pass said = decimal pass ++ codes " " ++ said ++ codes "\n"
