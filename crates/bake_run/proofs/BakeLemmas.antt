-- Why a run ends as it does, and what it puts then.
use Rattle.std.proofs.Common.{◌≡◌, ◌≢◌, ◌⊎◌, ℕ, ◌+◌, ◌<◌, List, [], ◌∷◌, ◌++◌, length, get_or, take, Option, Some, String, Global, inl, inr, refl, sym, ap, subst, ◌∙◌, string_bytes}
use Rattle.std.specs.Io.KnownBytes.{Appends}
use Rattle.std.proofs.lemmas.List.{map-append, take_more}
use Rattle.wire.specs.Contents.{PutsPrefix}
use Rattle.clap.specs.Walk.{Text}
use Rattle.versions.specs.Databases.{Versioned}
use Rattle.path_image.specs.Images.{image_of}
use Rattle.path_image.specs.Writing.{bytes_of}
use Rattle.path_commands.specs.declared.commands.Verb.TheVariants as verb
use Rattle.path_commands.specs.declared.status.Status.{Status}
use Rattle.path_commands.specs.declared.status.Status.TheVariants as status
use Rattle.path_commands.specs.Commands.{verb_named, verb_of}
use Rattle.path_commands.specs.declared.request.Sides.{Sides}
use Rattle.path_commands.specs.Requests.{Aim, Fits, aim_verb, by_formula, check, export, made, near, nearpath, path, replay, scen}
use Rattle.path_commands.specs.Runs.{IsWordsCause, Run}
use Rattle.path_commands.specs.Statuses.{status_text}
use Rattle.path_commands.specs.Words.{texts_of}
use Rattle.bake_run.specs.Baking.{BreaksOff, FailsByMap, IsAskedFor, IsCause, PutsImage, export_words, refusal_text}

-- ---- the words

named_export : (words : List Text) → verb_of (export_words words) ≡ Some verb.Export
unfolding verb_named
named_export words = refl

pub asks_for_export : (all words : List Text) → all ≡ export_words words → verb_of all ≡ Some verb.Export
asks_for_export all words same = ap verb_of same ∙ named_export words

-- what `export` asks for, which is never asked of a made map
pub is_export : (aim : Aim) → aim_verb aim ≡ verb.Export → aim ≡ export
is_export (path start goal) same = absurd cc
is_export check same = absurd cc
is_export near same = absurd cc
is_export (nearpath start goal) same = absurd cc
is_export (scen scenarios) same = absurd cc
is_export (made seed) same = absurd cc
is_export (replay events) same = absurd cc
is_export export same = refl

pub no_formula : (sides : Sides) (seed : ℕ) (aim : Aim) → aim_verb aim ≡ verb.Export → Fits (by_formula sides seed) aim → ⊥
no_formula sides seed aim same fits = subst (Fits (by_formula sides seed)) (is_export aim same) fits

-- one more of the words
pub one_more_word : (all words : List (String Global)) (k : ℕ) (word d : String Global) → k < length words → string_bytes word ≡ string_bytes (get_or words k d)
    → texts_of all ≡ export_words (texts_of (take k words)) → texts_of (all ++ word ∷ []) ≡ export_words (texts_of (take (k + 1) words))
one_more_word all words k word d inside same before =
    map-append string_bytes all (word ∷ [])
    ∙ ap (λ texts. texts ++ string_bytes word ∷ []) before
    ∙ ap (λ text. export_words (texts_of (take k words) ++ text ∷ [])) same
    ∙ ap export_words (sym (map-append string_bytes (take k words) (get_or words k d ∷ [])) ∙ ap texts_of (sym (take_more words k d inside)))

-- ---- the cause of a status

abbrev is_usage : Status → Type 0
is_usage status.Usage = Unit {0}
is_usage _ = ⊥

abbrev is_done : Status → Type 0
is_done status.Done = Unit {0}
is_done _ = ⊥

done_or_fault : status.Done ≢ status.WriteFault
done_or_fault same = subst is_done same tt

-- the line of another cause than the usage, or that of want of memory, is the main program's
pub told_text : (cause told : Status) → cause ≢ status.Usage → (told ≡ cause) ⊎ (told ≡ status.NoMemory) → status_text told ≡ refusal_text told
told_text cause status.Done other which = refl
told_text cause status.Usage other (inl same) = absurd (other (sym same))
told_text cause status.Usage other (inr same) = absurd (subst is_usage same tt)
told_text cause (status.Map fault) other which = refl
told_text cause (status.Scen fault) other which = refl
told_text cause (status.Query refusal) other which = refl
told_text cause status.ReadFault other which = refl
told_text cause status.WriteFault other which = refl
told_text cause status.NoMemory other which = refl
told_text cause (status.TooLong limit) other which = refl
told_text cause (status.Broken why) other which = refl
told_text cause status.BadAnswer other which = refl
told_text cause (status.Events line) other which = refl
told_text cause (status.Db fault) other which = refl
told_text cause status.LeaderMemory other which = refl

module _ (run : Run) where
  pub map_fails : (cause : Status) → FailsByMap run cause → IsCause run cause
  map_fails status.Done fails = fails
  map_fails status.Usage fails = absurd fails.fails
  map_fails (status.Map fault) fails = fails
  map_fails (status.Scen fault) fails = fails
  map_fails (status.Query refusal) fails = fails
  map_fails status.ReadFault fails = fails
  map_fails status.WriteFault fails = fails
  map_fails status.NoMemory fails = tt
  map_fails (status.TooLong limit) fails = fails
  map_fails (status.Broken why) fails = fails
  map_fails status.BadAnswer fails = fails
  map_fails (status.Events line) fails = fails
  map_fails (status.Db fault) fails = fails
  map_fails status.LeaderMemory fails = fails

  pub words_fail : (all : List Text) (cause : Status) → all ≡ export_words run.words → IsWordsCause all cause → IsCause run cause
  words_fail all status.Done same fails = absurd fails
  words_fail all status.Usage same fails = rw same at fails
  words_fail all (status.Map fault) same fails = absurd fails
  words_fail all (status.Scen fault) same fails = absurd fails
  words_fail all (status.Query refusal) same fails = absurd fails
  words_fail all status.ReadFault same fails = absurd fails
  words_fail all status.WriteFault same fails = absurd fails
  words_fail all status.NoMemory same fails = tt
  words_fail all (status.TooLong limit) same fails = absurd fails
  words_fail all (status.Broken why) same fails = absurd fails
  words_fail all status.BadAnswer same fails = absurd fails
  words_fail all (status.Events line) same fails = absurd fails
  words_fail all (status.Db fault) same fails = absurd fails
  words_fail all status.LeaderMemory same fails = absurd fails

  -- neither the end of the work nor a fault of the output is a cause
  pub no_done : (cause : Status) → IsCause run cause → cause ≢ status.Done
  no_done cause is = λ same. absurd ((subst (IsCause run) same is).fails)

  pub no_fault : (cause : Status) → IsCause run cause → cause ≢ status.WriteFault
  no_fault cause is = λ same. absurd ((subst (IsCause run) same is).fails)

  -- what is told is the cause, or want of memory
  told_cause : (cause told : Status) → IsCause run cause → (told ≡ cause) ⊎ (told ≡ status.NoMemory) → IsCause run told
  told_cause cause told is (inl same) = subst (IsCause run) (sym same) is
  told_cause cause told is (inr same) = subst (IsCause run) (sym same) tt

  -- ---- what is put of an image

  module _ (version : Versioned) (ended : Status) (old new : Option (List ℕ)) (asked : IsAskedFor run version) where
    pub image_cut : PutsPrefix old new (bytes_of (image_of version)) → BreaksOff run old new
    image_cut put = inl (record { version = version; asked = asked; put = put })

    module _ (whole : ended ≢ status.WriteFault → (ended ≡ status.Done) × Appends old new (bytes_of (image_of version))) where
      pub image_put : ended ≡ status.Done → PutsImage run old new
      image_put done = record { version = version; asked = asked; put = (whole (λ fault. done_or_fault (sym done ∙ fault))).1 }

      pub image_done : {X : Type 0} → ended ≢ status.Done → ended ≢ status.WriteFault → X
      image_done other written = absurd (other (whole written).0)

  -- ---- what is put of a refusal

  module _ (cause ended : Status) (old new : Option (List ℕ)) (is : IsCause run cause) where
    pub line_cut : (told : Status) → (told ≡ cause) ⊎ (told ≡ status.NoMemory) → PutsPrefix old new (refusal_text told) → BreaksOff run old new
    line_cut told which put = inr (record { ended = told; cause = told_cause cause told is which; put = put })

    module _ (whole : ended ≢ status.WriteFault → ((ended ≡ cause) ⊎ (ended ≡ status.NoMemory)) × Appends old new (refusal_text ended)) where
      pub line_cause : ended ≢ status.WriteFault → IsCause run ended
      line_cause written = told_cause cause ended is (whole written).0

      pub line_put : {X : Type 0} → ended ≡ status.Done → X
      line_put done = absurd (no_done ended (line_cause (λ fault. done_or_fault (sym done ∙ fault))) done)
