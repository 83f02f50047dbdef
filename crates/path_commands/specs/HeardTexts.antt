-- What `ask` prints of an answer.
use Rattle.std.specs.Prelude.{◌≡◌, ℕ, List, ◌++◌, cond, codes}
use Rattle.std.specs.Fmt.{decimal}
use Rattle.root_cost.specs.declared.Cost.{Cost}
use Rattle.moves.specs.declared.Move.{Move}
use Rattle.edit_log.specs.Verdicts.{refusal_text as edit_text}
use Rattle.versions.specs.declared.query.End.{End}
use Rattle.versions.specs.declared.query.End.TheVariants.{Start, Goal}
use Rattle.versions.specs.declared.query.QueryRefusal.{QueryRefusal}
use Rattle.versions.specs.declared.query.QueryRefusal.TheVariants.{Outside, Blocked}
use Rattle.versions.specs.Queries.{refusal_text}
use Rattle.query_proto.specs.declared.replies.QueryWhy.{QueryWhy}
use Rattle.query_proto.specs.declared.replies.Reply.{Reply}
use Rattle.query_proto.specs.declared.replies.Reply.TheVariants as reply
use Rattle.path_commands.specs.Texts.{line, unreachable_text}
use Rattle.path_commands.specs.Queries.{TellsPath}

-- which end is refused
abbrev pub end_of : QueryWhy → End
end_of why = cond why.goal Goal Start

-- the refusal that a reply tells
abbrev pub refusal_of : QueryWhy → QueryRefusal
refusal_of why = cond why.blocked (Blocked (end_of why)) (Outside (end_of why))

-- the line that tells a version by the number of its edits
abbrev pub version_line : ℕ → List ℕ
version_line version = line (codes "version " ++ decimal version)

-- what is printed of a reply; of a path this stands before what `path` prints of it
abbrev pub reply_text : Reply → List ℕ
reply_text (reply.Path version cost) = version_line version
reply_text (reply.Unreachable version) = version_line version ++ unreachable_text
reply_text (reply.Refused version why) = version_line version ++ line (refusal_text (refusal_of why))
reply_text (reply.Accepted number) = line (codes "accepted " ++ decimal number)
reply_text (reply.EditRefused why) = line (edit_text why)
reply_text (reply.Published prefix built kept) =
    line (codes "published " ++ decimal prefix ++ codes " built " ++ decimal built ++ codes " kept " ++ decimal kept)
reply_text (reply.NothingNew prefix) = line (codes "nothing new " ++ decimal prefix)
reply_text (reply.Overtaken by) = line (codes "overtaken " ++ decimal by)
reply_text (reply.Status version accepted cells comps runs) =
    line (codes "version " ++ decimal version ++ codes " accepted " ++ decimal accepted ++ codes " cells " ++ decimal cells
    ++ codes " components " ++ decimal comps ++ codes " runs " ++ decimal runs)
reply_text reply.Done = line (codes "done")
reply_text reply.Welcome = line (codes "welcome")
reply_text (reply.Malformed kind size) = line (codes "malformed " ++ decimal kind ++ codes " " ++ decimal size)
reply_text reply.NoMemory = line (codes "server out of memory")

-- the text has this before what `path` prints of a path
pub record TellsPathBehind (before : List ℕ) (cost : Cost) (moves : List Move) (text : List ℕ) : Type 0 where
  pub path : List ℕ
  pub tells : TellsPath cost moves path
  pub is : text ≡ before ++ path

-- the text tells the answer: the reply, and of a path its moves
abbrev pub TellsHeard : Reply → List Move → List ℕ → Type 0
TellsHeard (reply.Path version cost) moves text = TellsPathBehind (version_line version) cost moves text
TellsHeard reply moves text = text ≡ reply_text reply
