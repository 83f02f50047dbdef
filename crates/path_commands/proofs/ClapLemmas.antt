-- What clap states of a parse, in the words of commands.
use Rattle.std.proofs.Common.{◌≡◌, ◌≢◌, ◌∙◌, ◌&&◌, Bool, List, [], ◌∷◌, true, false, IsTrue, inl, inr, refl, ap, arith}
use Rattle.std.proofs.lemmas.Bool.Decides.{nat_tests}
use Rattle.clap.specs.Words.{App, HasKind, HasMatchesOf, IsAmong, Kinds, Text, fault_of, found_of, is_simple, is_simple_and_free, kind_of}
use Rattle.clap.specs.Walk.{all_of, first_of, is_empty}
use Rattle.clap.specs.Simple.{built}
use Rattle.clap.specs.Faults.{is_free_app}
use Rattle.clap.specs.declared.error.Error.{Error}
use Rattle.clap.specs.declared.error.kind.ErrorKind.{ErrorKind}
use Rattle.clap.specs.declared.error.kind.ErrorKind.TheVariants.{OutOfMemory}
use Rattle.clap.specs.declared.parser.matches.ArgMatches.{ArgMatches}
use Rattle.clap.proofs.WalkLemmas.{first_value-rows, raw_values-rows}
use Rattle.path_commands.specs.Words.{HasValues, is_taken, value_of, values_of}

-- no kind of error is among those of words that clap takes
is_fault : (kinds : Kinds) (k : ErrorKind) → IsAmong k kinds → is_empty kinds ≡ false
is_fault [] k h = absurd h
is_fault (x ∷ xs) k h = grind (arith, nat_tests)

no_fault : (kinds : Kinds) → kinds ≡ [] → IsTrue (is_empty kinds)
no_fault [] e = refl
no_fault (x ∷ xs) e = cc

left_true : (a b : Bool) → (a && b) ≡ true → a ≡ true
left_true true b e = refl
left_true false b e = e

-- where a parse of these words succeeds
pub has_values : (app : App) (words : List Text) (m : ArgMatches) → is_simple_and_free app ≡ true → fault_of app words ≡ [] → HasMatchesOf app words m → HasValues app words m
unfolding is_taken value_of values_of
has_values app words m simple clean found = record {
  taken = no_fault (fault_of app words) clean;
  values = λ id. first_value-rows (found_of m) id ∙ ap (first_of id) (found (left_true (is_simple app) (is_free_app (built app)) simple)).0;
  every = λ id. raw_values-rows (found_of m) id ∙ ap (all_of id) (found (left_true (is_simple app) (is_free_app (built app)) simple)).0;
}

-- where a parse fails and memory is left
pub not_taken : (app : App) (words : List Text) (e : Error) → HasKind (fault_of app words) e → kind_of e ≢ OutOfMemory → is_taken app words ≡ false
unfolding is_taken
not_taken app words e (inl full) left = absurd (left full)
not_taken app words e (inr among) left = is_fault (fault_of app words) (kind_of e) among
