-- The lines of an events text, one after another.
use Rattle.std.proofs.Common.{◌≡◌, ℕ, ◌+◌, ◌<◌, ◌≤◌, ◌^◌, true, false, List, [], ◌∷◌, ◌++◌, length, Option, Some, None, Ok, Err, refl, sym, ap, ◌∙◌, arith}
use Rattle.std.specs.List.{AllZip}
use Rattle.std.proofs.lemmas.List.Elements.{All-nil, All-push}
use Rattle.text_lines.specs.Lines.{lines_of}
use Rattle.text_lines.specs.Words.{is_blank, words_of}
use Rattle.text_lines.proofs.LineLemmas.{few_lines}
use Rattle.path_replay.specs.declared.TheConstants.{PASSES, MAX_EVENTS_BYTES}
use Rattle.path_replay.specs.declared.event.Event.{Event}
use Rattle.path_replay.specs.Events.{Said, IsSaid, AreEventsOf, HavePasses, lines_said, text_said, words_said, pass_of}
use Rattle.path_replay.specs.Inside.{IsReadAs}

zip_push : (said : List Said) (events : List Event) (s : Said) (e : Event) → AllZip IsSaid said events → IsSaid s e
    → AllZip IsSaid (said ++ s ∷ []) (events ++ e ∷ [])
zip_push [] [] s e all is = (is, tt)
zip_push [] (f ∷ events) s e all is = absurd all
zip_push (t ∷ said) [] s e all is = absurd all
zip_push (t ∷ said) (f ∷ events) s e all is = (all.0, zip_push said events s e all.1 is)

-- what was read: what follows gives what all lines give
pub record AreReadTo (text : List ℕ) (number : ℕ) (events : List Event) (lines : List (List ℕ)) : Type 0 where
  pub said : List Said
  pub value : lines_said number said lines ≡ text_said text
  pub are : AllZip IsSaid said events
  pub passes : HavePasses events
  pub few : number + length lines < 2 ^ 32

pub none_read : (text : List ℕ) (lines : List (List ℕ)) (events : List Event) → length text ≤ MAX_EVENTS_BYTES → lines ≡ lines_of text → events ≡ []
    → AreReadTo text 1 events lines
none_read text lines events few lines_are none = record {
  said = [];
  value = ap (lines_said 1 []) lines_are;
  are = rw none tt;
  passes = rw none (All-nil (λ event. pass_of event < PASSES));
  few = (let long = ap length lines_are in omega (arith, few_lines text, long));
}

module _ (text : List ℕ) (number : ℕ) (events : List Event) (lines rest : List (List ℕ)) (line : List ℕ) (lines_are : lines ≡ line ∷ rest)
    (so_far : AreReadTo text number events lines) where
  fewer : number + 1 + length rest < 2 ^ 32
  fewer = let count = ap (λ (ls : List (List ℕ)). length ls) lines_are in omega (arith, count, so_far.few)

  pub blank_read : is_blank line ≡ true → AreReadTo text (number + 1) events rest
  unfolding lines_said
  blank_read blank =
      let step : lines_said number so_far.said lines ≡ lines_said (number + 1) so_far.said rest = rw (lines_are, blank) refl in
      record { said = so_far.said; value = sym step ∙ so_far.value; are = so_far.are; passes = so_far.passes; few = fewer }

  read_as : (event : Event) (found : Option Said) → words_said (words_of line) ≡ found → is_blank line ≡ false → IsReadAs found (Some event) → pass_of event < PASSES
      → AreReadTo text (number + 1) (events ++ event ∷ []) rest
  unfolding lines_said
  read_as event None found other is pass = absurd is
  read_as event (Some said) found other is pass =
      let step : lines_said number so_far.said lines ≡ lines_said (number + 1) (so_far.said ++ said ∷ []) rest = rw (lines_are, other, found) refl in
      record {
        said = so_far.said ++ said ∷ [];
        value = sym step ∙ so_far.value;
        are = zip_push so_far.said events said event so_far.are is;
        passes = All-push (λ event. pass_of event < PASSES) events event so_far.passes pass;
        few = fewer;
      }

  pub event_read : (event : Event) → is_blank line ≡ false → IsReadAs (words_said (words_of line)) (Some event) → pass_of event < PASSES
      → AreReadTo text (number + 1) (events ++ event ∷ []) rest
  event_read event other is pass = read_as event (words_said (words_of line)) refl other is pass

  refused_as : (found : Option Said) → words_said (words_of line) ≡ found → is_blank line ≡ false → IsReadAs found None → text_said text ≡ Err number
  unfolding lines_said
  refused_as None found other is =
      let step : lines_said number so_far.said lines ≡ Err number = rw (lines_are, other, found) refl in
      sym so_far.value ∙ step
  refused_as (Some said) found other is = absurd is

  pub line_refused : is_blank line ≡ false → IsReadAs (words_said (words_of line)) None → text_said text ≡ Err number
  line_refused other is = refused_as (words_said (words_of line)) refl other is

pub all_read : (text : List ℕ) (lines : List (List ℕ)) (number : ℕ) (events : List Event) → lines ≡ [] → AreReadTo text number events lines
    → AreEventsOf text events
unfolding lines_said
all_read text lines number events none so_far =
    let end : lines_said number so_far.said lines ≡ Ok so_far.said = rw none refl in
    record { said = so_far.said; reads = sym so_far.value ∙ end; are = so_far.are }
