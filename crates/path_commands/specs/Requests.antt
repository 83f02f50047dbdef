-- The request that the words of a command line spell.
use Rattle.std.specs.Prelude.{◌≡◌, ◌≢◌, ℕ, ◌<◌, ◌≤◌, ◌*◌, ◌==◌, nat_le, List, String, Option, Some, None, codes, if◌then◌else◌, option_and_then}
use Rattle.std.specs.Global.{Global}
use Rattle.clap.specs.Walk.{Text}
use Rattle.moves.specs.declared.Cell.{Cell}
use Rattle.moves.specs.declared.TheConstants.{MAX_CELLS}
use Rattle.moves.specs.Maps.{IsWithinLimits}
use Rattle.wire.specs.declared.house.DoorsAsked.{DoorsAsked}
use Rattle.session.specs.declared.boards.TheConstants.{MAX_DOORS}
use Rattle.path_core.specs.declared.TheConstants.{MAX_ENTRIES}
use Rattle.cell_order.specs.declared.OrderKind.{OrderKind}
use Rattle.cell_order.specs.declared.OrderKind.TheVariants.{Rows}
use Rattle.path_commands.specs.declared.commands.Kind.{Kind}
use Rattle.path_commands.specs.declared.commands.Kind.TheVariants as kind
use Rattle.path_commands.specs.declared.commands.Verb.{Verb}
use Rattle.path_commands.specs.declared.commands.Verb.TheVariants as verb
use Rattle.path_commands.specs.declared.request.BuildOptions.{BuildOptions}
use Rattle.path_commands.specs.declared.request.MapAim.{MapAim}
use Rattle.path_commands.specs.declared.request.MapAim.TheVariants as aim
use Rattle.path_commands.specs.declared.request.MapSource.{MapSource}
use Rattle.path_commands.specs.declared.request.MapSource.TheVariants.{File, Formula}
use Rattle.path_commands.specs.declared.request.Refusal.{Refusal}
use Rattle.path_commands.specs.declared.request.Request.{Request}
use Rattle.path_commands.specs.declared.request.Request.TheVariants.{OfMap, Talk, Serve, Ask, Verify, Lead, Follow}
use Rattle.path_commands.specs.declared.request.RequestError.TheVariants.{Usage}
use Rattle.path_commands.specs.declared.request.Sides.{Sides}
use Rattle.path_commands.specs.declared.words.TheConstants.{MAX_ROUNDS, STANDARD_ROOM}
use Rattle.path_commands.specs.declared.words.NumberKind.{NumberKind}
use Rattle.path_commands.specs.declared.words.NumberKind.TheVariants as number
use Rattle.path_commands.specs.Commands.{app_for, kind_named, verb_of}
use Rattle.path_commands.specs.Words.{AreWorkers, coordinate_in, is_taken, number_as, order_in, path_in, room_in}
use Rattle.path_commands.specs.Words.{texts_of, value_of, values_of, workers_in}
use Rattle.path_commands.specs.SaidRequests.{Said, request_said, said_by}

-- where a map comes from: the file of that name, or the formula, of two sides and a seed
pub data Source : Type 0 where
  in_file : Text → Source
  by_formula : Sides → ℕ → Source

-- What the first version of a map is to answer: a best path between two cells; its size; how many runs are
-- left where compass moves need none; a best path by such moves; the scenarios in a file; the queries of the
-- seed that it was made of; the events in a file; and the file of its database.
pub data Aim : Type 0 where
  path : Cell → Cell → Aim
  check : Aim
  near : Aim
  nearpath : Cell → Cell → Aim
  scen : Text → Aim
  made : ℕ → Aim
  replay : Text → Aim
  export : Aim

-- What is asked for: something of the first version of a map, with how that is built; a session on a board that begins
-- with the map in a file, with its room; sessions at this many doors of a port on such a board; one request to the
-- server at a port; whether a file is that of a database; such sessions, and a door at another port where followers are
-- fed; and a session on a board that follows the leader at a port, which is asked so often.
pub data Asked : Type 0 where
  of_map : Source → Aim → BuildOptions → Asked
  talk : Text → ℕ → BuildOptions → Asked
  serve : Text → DoorsAsked → ℕ → BuildOptions → Asked
  ask : ℕ → Said → Asked
  verify : Text → Asked
  lead : Text → DoorsAsked → ℕ → ℕ → BuildOptions → Asked
  follow : ℕ → ℕ → OrderKind → Asked

-- the same with the bytes of their texts
abbrev pub source_of : MapSource → Source
source_of (File name) = in_file name.now
source_of (Formula sides seed) = by_formula sides seed

abbrev pub aim_of : MapAim → Aim
aim_of (aim.Path start goal) = path start goal
aim_of aim.Check = check
aim_of aim.Near = near
aim_of (aim.NearPath start goal) = nearpath start goal
aim_of (aim.Scen scenarios) = scen scenarios.now
aim_of (aim.Made seed) = made seed
aim_of (aim.Replay events) = replay events.now
aim_of aim.Export = export

-- a request of the program, with the bytes of its texts
abbrev pub asked : Request → Asked
asked (OfMap map) = of_map (source_of map.source) (aim_of map.aim) map.build
asked (Talk board) = talk board.map.now board.room board.build
asked (Serve board) = serve board.map.now board.doors board.room board.build
asked (Ask server) = ask server.port (said_by server.asking)
asked (Verify db) = verify db.now
asked (Lead board) = lead board.map.now board.doors board.feed board.room board.build
asked (Follow leader) = follow leader.port leader.rounds leader.order

-- the command that asks for it
abbrev pub aim_verb : Aim → Verb
aim_verb (path start goal) = verb.Path
aim_verb check = verb.Check
aim_verb near = verb.Near
aim_verb (nearpath start goal) = verb.NearPath
aim_verb (scen scenarios) = verb.Scen
aim_verb (made seed) = verb.Made
aim_verb (replay events) = verb.Replay
aim_verb export = verb.Export

abbrev pub verb_asked : Asked → Verb
verb_asked (of_map source aim build) = aim_verb aim
verb_asked (talk map room build) = verb.Talk
verb_asked (serve map doors room build) = verb.Serve
verb_asked (ask port said) = verb.Ask
verb_asked (verify db) = verb.Verify
verb_asked (lead map doors feed room build) = verb.Lead
verb_asked (follow port rounds order) = verb.Follow

-- and the kind of that
abbrev pub kind_asked : Asked → Kind
kind_asked (of_map source aim build) = kind.Printed
kind_asked (talk map room build) = kind.Talk
kind_asked (serve map doors room build) = kind.Serve
kind_asked (ask port said) = kind.Ask
kind_asked (verify db) = kind.Printed
kind_asked (lead map doors feed room build) = kind.Lead
kind_asked (follow port rounds order) = kind.Follow

-- a port may have this many doors
pub record AreDoors (count : ℕ) : Type 0 where
  pub some : 0 < count
  pub few : count ≤ MAX_DOORS

-- a map that is made has sides within the limits
abbrev pub HasSides : Source → Type 0
HasSides (in_file name) = Unit {0}
HasSides (by_formula sides seed) = IsWithinLimits sides.width sides.height

-- the queries of a seed are those of the map that is made of it, and of such a map nothing else is asked
abbrev pub Fits : Source → Aim → Type 0
Fits (in_file name) (made seed) = ⊥
Fits (in_file name) _ = Unit {0}
Fits (by_formula sides seed) (made other) = other ≡ seed
Fits (by_formula sides seed) _ = ⊥

-- the limits of what is asked for: also, a board has room for no more entries than it can have, a port has as many
-- doors as it may, followers are fed at another one, and a leader is asked no more often than it answers
abbrev pub HasLimits : Asked → Type 0
HasLimits (of_map source aim build) = HasSides source × Fits source aim × AreWorkers build.workers
HasLimits (talk map room build) = (room ≤ MAX_ENTRIES) × AreWorkers build.workers
HasLimits (serve map doors room build) = (room ≤ MAX_ENTRIES) × AreDoors doors.count × AreWorkers build.workers
HasLimits (ask port said) = Unit {0}
HasLimits (verify db) = Unit {0}
HasLimits (lead map doors feed room build) =
    (room ≤ MAX_ENTRIES) × AreDoors doors.count × (feed ≢ doors.port) × AreWorkers build.workers
HasLimits (follow port rounds order) = rounds ≤ MAX_ROUNDS

-- ---- what a command makes of its values, each of which has the name of an argument or option

-- the value of each argument and option that has one
abbrev pub Values : Type 0
Values = Text → Option Text

-- all values of each argument that has some
abbrev pub Lists : Type 0
Lists = Text → Option (List Text)

-- the file that an argument names
abbrev pub path_at : Values → Text → Option Text
path_at values id = option_and_then path_in (values id)

-- the column or the row that an argument names
abbrev pub coordinate_at : Values → Text → Option ℕ
coordinate_at values id = option_and_then coordinate_in (values id)

abbrev pub cell_from : Option ℕ → Option ℕ → Option Cell
cell_from (Some x) (Some y) = Some (record { x = x; y = y })
cell_from _ _ = None

-- the cell that two arguments name
unfoldable pub cell_at : Values → Text → Text → Option Cell
cell_at values column row = cell_from (coordinate_at values column) (coordinate_at values row)

-- the number of that kind that an argument names
abbrev pub number_at : NumberKind → Values → Text → Option ℕ
number_at kind values id = option_and_then (number_as kind) (values id)

-- sides with no more cells than a map may have
abbrev pub sides_from : Option ℕ → Option ℕ → Option Sides
sides_from (Some width) (Some height) =
    if nat_le (width * height) MAX_CELLS then Some (record { width = width; height = height })
    else None
sides_from _ _ = None

-- the sides that two arguments name
unfoldable pub sides_at : Values → Text → Text → Option Sides
sides_at values width height =
    sides_from (number_at number.Side values width) (number_at number.Side values height)

-- the value of an option, or the first value if it is not given
abbrev pub given_or : {X : Type 0} → X → (Text → Option X) → Option Text → Option X
given_or standard reader (Some text) = reader text
given_or standard reader None = Some standard

-- the order of the cells, row by row by default
abbrev pub order_at : Values → Text → Option OrderKind
order_at values id = given_or Rows order_in (values id)

-- how many threads build, one by default
abbrev pub workers_at : Values → Text → Option ℕ
workers_at values id = given_or 1 workers_in (values id)

-- how many entries a board reserves memory for, 65,536 by default
abbrev pub room_at : Values → Text → Option ℕ
room_at values id = given_or STANDARD_ROOM room_in (values id)

abbrev pub build_from : Option OrderKind → Option ℕ → Option BuildOptions
build_from (Some order) (Some workers) = Some (record { order = order; workers = workers })
build_from _ _ = None

-- `--order rows|dfs` and `--workers N`
unfoldable pub build_at : Values → Option BuildOptions
build_at values = build_from (order_at values (codes "order")) (workers_at values (codes "workers"))

abbrev pub path_from : Option Text → Option Cell → Option Cell → Option BuildOptions → Option Asked
path_from (Some map) (Some start) (Some goal) (Some build) = Some (of_map (in_file map) (path start goal) build)
path_from _ _ _ _ = None

-- `path MAP SX SY GX GY`
unfoldable pub path_by : Values → Option Asked
path_by values = path_from (path_at values (codes "MAP"))
    (cell_at values (codes "SX") (codes "SY")) (cell_at values (codes "GX") (codes "GY"))
    (build_at values)

abbrev pub check_from : Option Text → Option BuildOptions → Option Asked
check_from (Some map) (Some build) = Some (of_map (in_file map) check build)
check_from _ _ = None

-- `check MAP`
unfoldable pub check_by : Values → Option Asked
check_by values = check_from (path_at values (codes "MAP")) (build_at values)

abbrev pub near_from : Option Text → Option BuildOptions → Option Asked
near_from (Some map) (Some build) = Some (of_map (in_file map) near build)
near_from _ _ = None

-- `near MAP`
unfoldable pub near_by : Values → Option Asked
near_by values = near_from (path_at values (codes "MAP")) (build_at values)

abbrev pub nearpath_from : Option Text → Option Cell → Option Cell → Option BuildOptions → Option Asked
nearpath_from (Some map) (Some start) (Some goal) (Some build) = Some (of_map (in_file map) (nearpath start goal) build)
nearpath_from _ _ _ _ = None

-- `nearpath MAP SX SY GX GY`
unfoldable pub nearpath_by : Values → Option Asked
nearpath_by values = nearpath_from (path_at values (codes "MAP"))
    (cell_at values (codes "SX") (codes "SY")) (cell_at values (codes "GX") (codes "GY"))
    (build_at values)

abbrev pub scen_from : Option Text → Option Text → Option BuildOptions → Option Asked
scen_from (Some map) (Some scenarios) (Some build) = Some (of_map (in_file map) (scen scenarios) build)
scen_from _ _ _ = None

-- `scen MAP SCEN`
unfoldable pub scen_by : Values → Option Asked
scen_by values = scen_from (path_at values (codes "MAP")) (path_at values (codes "SCEN"))
    (build_at values)

abbrev pub made_from : Option Sides → Option ℕ → Option BuildOptions → Option Asked
made_from (Some sides) (Some seed) (Some build) = Some (of_map (by_formula sides seed) (made seed) build)
made_from _ _ _ = None

-- `made W H SEED`
unfoldable pub made_by : Values → Option Asked
made_by values = made_from (sides_at values (codes "W") (codes "H"))
    (number_at number.Seed values (codes "SEED")) (build_at values)

abbrev pub replay_from : Option Text → Option Text → Option BuildOptions → Option Asked
replay_from (Some map) (Some events) (Some build) = Some (of_map (in_file map) (replay events) build)
replay_from _ _ _ = None

-- `replay MAP EVENTS`
unfoldable pub replay_by : Values → Option Asked
replay_by values = replay_from (path_at values (codes "MAP")) (path_at values (codes "EVENTS"))
    (build_at values)

abbrev pub talk_from : Option Text → Option ℕ → Option BuildOptions → Option Asked
talk_from (Some map) (Some room) (Some build) = Some (talk map room build)
talk_from _ _ _ = None

-- `talk MAP`, with `--room N`
unfoldable pub talk_by : Values → Option Asked
talk_by values = talk_from (path_at values (codes "MAP")) (room_at values (codes "room"))
    (build_at values)

abbrev pub doors_from : Option ℕ → Option ℕ → Option DoorsAsked
doors_from (Some port) (Some count) = Some (record { port = port; count = count })
doors_from _ _ = None

-- the doors of which two arguments name the port and the number
unfoldable pub doors_at : Values → Text → Text → Option DoorsAsked
doors_at values port count =
    doors_from (number_at number.Port values port) (number_at number.Doors values count)

abbrev pub serve_from : Option Text → Option DoorsAsked → Option ℕ → Option BuildOptions → Option Asked
serve_from (Some map) (Some doors) (Some room) (Some build) = Some (serve map doors room build)
serve_from _ _ _ _ = None

-- `serve MAP PORT DOORS`, with `--room N`
unfoldable pub serve_by : Values → Option Asked
serve_by values = serve_from (path_at values (codes "MAP"))
    (doors_at values (codes "PORT") (codes "DOORS")) (room_at values (codes "room"))
    (build_at values)

abbrev pub ask_from : Option ℕ → Option Said → Option Asked
ask_from (Some port) (Some said) = Some (ask port said)
ask_from _ _ = None

-- the request that the values of an argument spell
abbrev pub said_at : Lists → Text → Option Said
said_at lists id = option_and_then request_said (lists id)

-- `ask PORT WORDS..`
unfoldable pub ask_by : Values → Lists → Option Asked
ask_by values lists = ask_from (number_at number.Port values (codes "PORT")) (said_at lists (codes "WORDS"))

abbrev pub export_from : Option Text → Option BuildOptions → Option Asked
export_from (Some map) (Some build) = Some (of_map (in_file map) export build)
export_from _ _ = None

-- `export MAP`
unfoldable pub export_by : Values → Option Asked
export_by values = export_from (path_at values (codes "MAP")) (build_at values)

abbrev pub verify_from : Option Text → Option Asked
verify_from (Some db) = Some (verify db)
verify_from None = None

-- `verify DB`
unfoldable pub verify_by : Values → Option Asked
verify_by values = verify_from (path_at values (codes "DB"))

-- the port at which followers are fed: any except that of the doors
abbrev pub feed_beside : ℕ → Option ℕ → Option ℕ
feed_beside port (Some feed) = if feed == port then None else Some feed
feed_beside port None = None

-- the port that an argument names beside those doors
abbrev pub feed_at : Values → Option DoorsAsked → Text → Option ℕ
feed_at values doors id = option_and_then (λ doors. feed_beside doors.port (number_at number.Port values id)) doors

abbrev pub lead_from : Option Text → Option DoorsAsked → Option ℕ → Option ℕ → Option BuildOptions → Option Asked
lead_from (Some map) (Some doors) (Some feed) (Some room) (Some build) = Some (lead map doors feed room build)
lead_from _ _ _ _ _ = None

-- `lead MAP PORT DOORS FEED`, with `--room N`
unfoldable pub lead_by : Values → Option Asked
lead_by values = lead_from (path_at values (codes "MAP"))
    (doors_at values (codes "PORT") (codes "DOORS"))
    (feed_at values (doors_at values (codes "PORT") (codes "DOORS")) (codes "FEED"))
    (room_at values (codes "room")) (build_at values)

abbrev pub follow_from : Option ℕ → Option ℕ → Option OrderKind → Option Asked
follow_from (Some port) (Some rounds) (Some order) = Some (follow port rounds order)
follow_from _ _ _ = None

-- `follow PORT ROUNDS`
unfoldable pub follow_by : Values → Option Asked
follow_by values = follow_from (number_at number.Port values (codes "PORT"))
    (number_at number.Rounds values (codes "ROUNDS")) (order_at values (codes "order"))

-- what each command makes of its values
abbrev pub asked_by : Verb → Values → Lists → Option Asked
asked_by verb.Path values lists = path_by values
asked_by verb.Check values lists = check_by values
asked_by verb.Near values lists = near_by values
asked_by verb.NearPath values lists = nearpath_by values
asked_by verb.Scen values lists = scen_by values
asked_by verb.Made values lists = made_by values
asked_by verb.Replay values lists = replay_by values
asked_by verb.Talk values lists = talk_by values
asked_by verb.Serve values lists = serve_by values
asked_by verb.Ask values lists = ask_by values lists
asked_by verb.Export values lists = export_by values
asked_by verb.Verify values lists = verify_by values
asked_by verb.Lead values lists = lead_by values
asked_by verb.Follow values lists = follow_by values

-- ---- the command line

-- what the command makes of the words: None where clap does not take them
unfoldable pub request_by : Verb → List Text → Option Asked
request_by verb words =
    if is_taken (app_for verb) words
    then asked_by verb (value_of (app_for verb) words) (values_of (app_for verb) words) else None

-- what the words of a command line ask for, or None if no command takes them
unfoldable pub request_of : List Text → Option Asked
request_of words = option_and_then (λ verb. request_by verb words) (verb_of words)

-- these words name a command of that kind, and they ask for nothing, or there was no memory to read them
pub record IsRefusalOf (words : List Text) (refusal : Refusal) : Type 0 where
  pub kind : refusal.kind ≡ kind_named words
  pub usage : refusal.error ≡ Usage → request_of words ≡ None

-- the first word is `talk`
abbrev pub IsTalk : List (String Global) → Type 0
IsTalk words = kind_named (texts_of words) ≡ kind.Talk

-- the first word is `serve`
abbrev pub IsServe : List (String Global) → Type 0
IsServe words = kind_named (texts_of words) ≡ kind.Serve

-- the first word is `ask`
abbrev pub IsAsk : List (String Global) → Type 0
IsAsk words = kind_named (texts_of words) ≡ kind.Ask

-- the first word is `lead`
abbrev pub IsLead : List (String Global) → Type 0
IsLead words = kind_named (texts_of words) ≡ kind.Lead

-- the first word is `follow`
abbrev pub IsFollow : List (String Global) → Type 0
IsFollow words = kind_named (texts_of words) ≡ kind.Follow

-- it is none of these: what the words come to is worked out here, and printed
abbrev pub IsPrinted : List (String Global) → Type 0
IsPrinted words = kind_named (texts_of words) ≡ kind.Printed
