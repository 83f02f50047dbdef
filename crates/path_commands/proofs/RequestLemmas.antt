-- What a command makes of words, and what it made of the values that a parse found.
use Rattle.std.proofs.Common.{◌≡◌, ◌∙◌, List, [], ◌∷◌, length, String, Bool, true, false, Option, Some, None, Err, IfOk, IfSome, string_bytes, find, position, inl, inr, refl, sym, ap, ap₂, option_map, arith}
use Rattle.std.specs.Option.{option_and_then}
use Rattle.std.specs.List.{position_or_len}
use Rattle.std.proofs.lemmas.Bool.{cases_lt}
use Rattle.std.proofs.lemmas.Bool.Decides.{nat_tests}
use Rattle.std.proofs.lemmas.List.Folds.{find_at}
use Rattle.std.proofs.lemmas.Option.{slice_get_past}
use Rattle.std.specs.Global.{Global}
use Rattle.std.specs.List.{slice_get}
use Rattle.std.specs.Option.{ok_or}
use Rattle.clap.specs.Words.{Text, first_value, found_of, is_simple_and_free}
use Rattle.clap.specs.declared.parser.matches.ArgMatches.{ArgMatches}
use Rattle.clap.proofs.OnLiterals.{clap_on_literals}
use Rattle.path_commands.specs.declared.commands.Verb.{Verb}
use Rattle.path_commands.specs.declared.commands.Verb.TheVariants.{Path, Check, Near, NearPath, Scen, Made, Replay, Talk, Serve, Ask, Export, Verify, Lead, Follow}
use Rattle.path_commands.specs.declared.request.Request.{Request}
use Rattle.path_commands.specs.declared.request.RequestError.TheVariants.{Usage}
use Rattle.path_commands.specs.Commands.{app_for, kind_named, kind_or, verb_kind, verb_named, verb_of}
use Rattle.path_commands.specs.Words.{HasValues, command_app, every_value, is_taken, texts_of}
use Rattle.path_commands.specs.Requests.{Asked, asked, asked_by, kind_asked, request_by, verb_asked}
use Rattle.path_commands.specs.Requests.{ask, check, export, follow, lead, made, near, nearpath, of_map, path, replay, scen, serve, talk, verify}

-- clap says of each command what it makes of any words
pub simple_app : (verb : Verb) → is_simple_and_free (app_for verb) ≡ true
unfolding app_for command_app clap_on_literals
simple_app Path = refl
simple_app Check = refl
simple_app Near = refl
simple_app NearPath = refl
simple_app Scen = refl
simple_app Made = refl
simple_app Replay = refl
simple_app Talk = refl
simple_app Serve = refl
simple_app Ask = refl
simple_app Export = refl
simple_app Verify = refl
simple_app Lead = refl
simple_app Follow = refl

-- the first word names the command
pub named_first : (words : List (String Global)) (name : String Global) → Some name ≡ slice_get words 0 → verb_of (texts_of words) ≡ verb_named (string_bytes name)
named_first [] name e = absurd cc
named_first (word ∷ words) name e = let same : word ≡ name = cc in ap (λ first. verb_named (string_bytes first)) same

-- clap takes the words: the command reads the values that the parse found
pub request_found : (verb : Verb) (words : List Text) (m : ArgMatches) → HasValues (app_for verb) words m → asked_by verb (first_value (found_of m)) (every_value (found_of m)) ≡ request_by verb words
unfolding request_by
request_found verb words m found = rw found.taken (ap₂ (asked_by verb) (λ i id. found.values id i) (λ i id. found.every id i))

-- clap does not take them
pub request_refused : (verb : Verb) (words : List Text) → is_taken (app_for verb) words ≡ false → request_by verb words ≡ None
unfolding request_by
request_refused verb words refused = rw refused

-- a request that was read, or a refusal, is what the definition says
pub read_some : (o : Option Request) (x : Option Asked) → option_map asked o ≡ x → IfOk (ok_or o Usage) (λ request. x ≡ Some (asked request))
read_some (Some request) x e = sym e
read_some None x e = tt

pub read_none : (o : Option Request) (x : Option Asked) → option_map asked o ≡ x → ok_or o Usage ≡ Err Usage → x ≡ None
read_none (Some request) x e h = absurd cc
read_none None x e h = sym e

-- the kind of what is asked for is that of the command that asks for it
pub kind_of_verb : (request : Asked) → verb_kind (verb_asked request) ≡ kind_asked request
kind_of_verb (of_map source (path start goal) build) = refl
kind_of_verb (of_map source check build) = refl
kind_of_verb (of_map source near build) = refl
kind_of_verb (of_map source (nearpath start goal) build) = refl
kind_of_verb (of_map source (scen scenarios) build) = refl
kind_of_verb (of_map source (made seed) build) = refl
kind_of_verb (of_map source (replay events) build) = refl
kind_of_verb (of_map source export build) = refl
kind_of_verb (talk map room build) = refl
kind_of_verb (serve map doors room build) = refl
kind_of_verb (ask port said) = refl
kind_of_verb (verify db) = refl
kind_of_verb (lead map doors feed room build) = refl
kind_of_verb (follow port rounds order) = refl

-- and so it is that of the command that the words name
pub kind_of_words : (words : List Text) (request : Asked) → verb_of words ≡ Some (verb_asked request) → kind_named words ≡ kind_asked request
kind_of_words words request named = ap kind_or named ∙ kind_of_verb request

-- what holds of a request that is there holds of the one that was read
pub kept_some : (P : Request → Type 0) (o : Option Request) → IfSome o P → IfOk (ok_or o Usage) P
kept_some P (Some request) p = p
kept_some P None p = tt

-- the first that passes is what stands at the place of the first that passes
pub find_by_position : {X : Type 0} (p : X → Bool) (xs : List X) → option_and_then (λ place. slice_get xs place) (position p xs) ≡ find p xs
find_by_position p xs =
    let found = find_at p xs in
    elim (cases_lt (position_or_len p xs) (length xs)) [
      | inl within ↦ grind (arith, nat_tests)
      | inr past ↦ let none = slice_get_past xs (position_or_len p xs) past in grind (arith, nat_tests)
    ]
