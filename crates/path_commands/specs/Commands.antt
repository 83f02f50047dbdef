-- The commands of the program, a line each: the name, and the arguments and options.
use Rattle.std.specs.Prelude.{List, [], ◌∷◌, ◌++◌, Bool, Option, Some, None, is_some, codes, find, map}
use Rattle.std.specs.Str.{bytes_eq}
use Rattle.clap.specs.Walk.{Rule, Text}
use Rattle.clap.specs.Simple.{App}
use Rattle.path_commands.specs.declared.commands.Kind.{Kind}
use Rattle.path_commands.specs.declared.commands.Kind.TheVariants as kind
use Rattle.path_commands.specs.declared.commands.Verb.{Verb}
use Rattle.path_commands.specs.declared.commands.Verb.TheVariants.{Path, Check, Near, NearPath, Scen, Made, Replay, Talk, Serve, Ask, Export, Verify, Lead, Follow}
use Rattle.path_commands.specs.declared.commands.Field.{Field}
use Rattle.path_commands.specs.declared.commands.Field.TheVariants.{Argument, Setting, Several}
use Rattle.path_commands.specs.declared.commands.Value.{Value}
use Rattle.path_commands.specs.declared.commands.Value.TheVariants as value
use Rattle.path_commands.specs.Words.{command_app, number_as, option_rule, order_in, path_in}
use Rattle.path_commands.specs.Words.{required_rule, several_rule}

-- what clap reads of an argument or option
abbrev pub rule_for : Field → Rule
rule_for (Argument id form) = required_rule id.now
rule_for (Setting id form) = option_rule id.now
rule_for (Several id) = several_rule id.now

-- the text is such a value
abbrev pub is_value : Value → Text → Bool
is_value value.File text = is_some (path_in text)
is_value (value.Number kind) text = is_some (number_as kind text)
is_value value.Order text = is_some (order_in text)

-- how a value is shown
abbrev pub form_text : Value → Text
form_text value.File = codes "FILE"
form_text (value.Number kind) = codes "N"
form_text value.Order = codes "rows|dfs"

-- how an argument or option is shown
abbrev pub field_text : Field → Text
field_text (Argument id form) = codes " " ++ id.now
field_text (Setting id form) = codes " [--" ++ id.now ++ codes " " ++ form_text form ++ codes "]"
field_text (Several id) = codes " " ++ id.now ++ codes ".."

-- arguments of these names, and how a database is built
abbrev pub with_build : List Text → List Rule
with_build arguments =
    map required_rule arguments ++ option_rule (codes "order") ∷ option_rule (codes "workers") ∷ []

abbrev pub verbs : List Verb
verbs = Path ∷ Check ∷ Scen ∷ Made ∷ Replay ∷ Talk ∷ Serve ∷ Ask ∷ Export ∷ Verify ∷ Near ∷ NearPath
    ∷ Lead ∷ Follow ∷ []

-- the word that names the command
abbrev pub verb_name : Verb → Text
verb_name Path = codes "path"
verb_name Check = codes "check"
verb_name Near = codes "near"
verb_name NearPath = codes "nearpath"
verb_name Scen = codes "scen"
verb_name Made = codes "made"
verb_name Replay = codes "replay"
verb_name Talk = codes "talk"
verb_name Serve = codes "serve"
verb_name Ask = codes "ask"
verb_name Export = codes "export"
verb_name Verify = codes "verify"
verb_name Lead = codes "lead"
verb_name Follow = codes "follow"

-- its arguments in order, and its options
abbrev pub verb_rules : Verb → List Rule
verb_rules Path =
    with_build (codes "MAP" ∷ codes "SX" ∷ codes "SY" ∷ codes "GX" ∷ codes "GY" ∷ [])
verb_rules Check = with_build (codes "MAP" ∷ [])
verb_rules Near = with_build (codes "MAP" ∷ [])
verb_rules NearPath =
    with_build (codes "MAP" ∷ codes "SX" ∷ codes "SY" ∷ codes "GX" ∷ codes "GY" ∷ [])
verb_rules Scen = with_build (codes "MAP" ∷ codes "SCEN" ∷ [])
verb_rules Made = with_build (codes "W" ∷ codes "H" ∷ codes "SEED" ∷ [])
verb_rules Replay = with_build (codes "MAP" ∷ codes "EVENTS" ∷ [])
verb_rules Talk = with_build (codes "MAP" ∷ []) ++ option_rule (codes "room") ∷ []
verb_rules Serve =
    with_build (codes "MAP" ∷ codes "PORT" ∷ codes "DOORS" ∷ []) ++ option_rule (codes "room") ∷ []
verb_rules Ask = required_rule (codes "PORT") ∷ several_rule (codes "WORDS") ∷ []
verb_rules Export = with_build (codes "MAP" ∷ [])
verb_rules Verify = required_rule (codes "DB") ∷ []
verb_rules Lead =
    with_build (codes "MAP" ∷ codes "PORT" ∷ codes "DOORS" ∷ codes "FEED" ∷ []) ++ option_rule (codes "room") ∷ []
verb_rules Follow =
    required_rule (codes "PORT") ∷ required_rule (codes "ROUNDS") ∷ option_rule (codes "order") ∷ []

-- how they are shown
abbrev pub verb_synopsis : Verb → Text
verb_synopsis Path = codes " MAP SX SY GX GY [--order rows|dfs] [--workers N]"
verb_synopsis Check = codes " MAP [--order rows|dfs] [--workers N]"
verb_synopsis Near = codes " MAP [--order rows|dfs] [--workers N]"
verb_synopsis NearPath = codes " MAP SX SY GX GY [--order rows|dfs] [--workers N]"
verb_synopsis Scen = codes " MAP SCEN [--order rows|dfs] [--workers N]"
verb_synopsis Made = codes " W H SEED [--order rows|dfs] [--workers N]"
verb_synopsis Replay = codes " MAP EVENTS [--order rows|dfs] [--workers N]"
verb_synopsis Talk = codes " MAP [--order rows|dfs] [--workers N] [--room N]"
verb_synopsis Serve = codes " MAP PORT DOORS [--order rows|dfs] [--workers N] [--room N]"
verb_synopsis Ask = codes " PORT WORDS.."
verb_synopsis Export = codes " MAP [--order rows|dfs] [--workers N]"
verb_synopsis Verify = codes " DB"
verb_synopsis Lead = codes " MAP PORT DOORS FEED [--order rows|dfs] [--workers N] [--room N]"
verb_synopsis Follow = codes " PORT ROUNDS [--order rows|dfs]"

-- the command as clap reads it
unfoldable pub app_for : Verb → App
app_for verb = command_app (verb_name verb) (verb_rules verb)

-- the command of this name, byte by byte
unfoldable pub verb_named : Text → Option Verb
verb_named name = find (λ verb. bytes_eq (verb_name verb) name) verbs

-- the command that the first word names
abbrev pub verb_of : List Text → Option Verb
verb_of [] = None
verb_of (name ∷ rest) = verb_named name

-- the kind of a command
abbrev pub verb_kind : Verb → Kind
verb_kind Talk = kind.Talk
verb_kind Serve = kind.Serve
verb_kind Ask = kind.Ask
verb_kind Lead = kind.Lead
verb_kind Follow = kind.Follow
verb_kind _ = kind.Printed

-- the kind of the command that the first word names; where it names none, what is said of that is printed
abbrev pub kind_or : Option Verb → Kind
kind_or (Some verb) = verb_kind verb
kind_or None = kind.Printed

abbrev pub kind_named : List Text → Kind
kind_named words = kind_or (verb_of words)
