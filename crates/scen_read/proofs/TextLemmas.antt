-- The lines of a text, one after another.
use Rattle.std.proofs.Common.{◌≡◌, ℕ, ◌+◌, ◌<◌, ◌≤◌, ◌^◌, Bool, true, false, List, [], ◌∷◌, ◌++◌, length, get_or, drop, Result, Ok, Err, refl, sym, ap, ◌∙◌, arith}
use Rattle.std.proofs.lemmas.List.{length-drop}
use Rattle.text_lines.proofs.LineLemmas.{few_lines}
use Rattle.text_lines.specs.Lines.{lines_of}
use Rattle.text_lines.specs.Words.{is_blank}
use Rattle.scen_read.specs.declared.TheConstants.{MAX_SCEN_BYTES}
use Rattle.scen_read.specs.declared.fault.ScenFault.{ScenFault}
use Rattle.scen_read.specs.declared.fault.ScenFault.TheVariants.{Version}
use Rattle.scen_read.specs.declared.scenario.ScenLine.{ScenLine}
use Rattle.scen_read.specs.Fields.{fields_of}
use Rattle.scen_read.specs.ScenText.{scenario_of, is_version_line, scenarios_in, scenarios_of}

-- what has been read: what follows gives what all lines give
pub record AreReadTo (start : List (List ℕ)) (number : ℕ) (scenarios : List ScenLine) (lines : List (List ℕ)) : Type 0 where
  pub value : scenarios_in number scenarios lines ≡ scenarios_in 2 [] start
  pub few : number + length lines < 2 ^ 32

module _ (start : List (List ℕ)) (number : ℕ) (scenarios : List ScenLine) (lines rest : List (List ℕ)) (line : List ℕ) (lines-are : lines ≡ line ∷ rest)
    (so_far : AreReadTo start number scenarios lines) where
  fewer : number + 1 + length rest < 2 ^ 32
  fewer = let count = ap (λ (ls : List (List ℕ)). length ls) lines-are in omega (arith, count, so_far.few)

  pub blank_read : is_blank line ≡ true → AreReadTo start (number + 1) scenarios rest
  unfolding scenarios_in
  blank_read blank =
      let step : scenarios_in number scenarios lines ≡ scenarios_in (number + 1) scenarios rest = rw (lines-are, blank) refl in
      record { value = sym step ∙ so_far.value; few = fewer }

  pub line_read : (scenario : ScenLine) → is_blank line ≡ false → scenario_of number (fields_of line) ≡ Ok scenario
      → AreReadTo start (number + 1) (scenarios ++ scenario ∷ []) rest
  unfolding scenarios_in
  line_read scenario text good =
      let step : scenarios_in number scenarios lines ≡ scenarios_in (number + 1) (scenarios ++ scenario ∷ []) rest = rw (lines-are, text, good) refl in
      record { value = sym step ∙ so_far.value; few = fewer }

  pub line_refused : (fault : ScenFault) → is_blank line ≡ false → scenario_of number (fields_of line) ≡ Err fault → scenarios_in 2 [] start ≡ Err fault
  unfolding scenarios_in
  line_refused fault text bad =
      let step : scenarios_in number scenarios lines ≡ Err fault = rw (lines-are, text, bad) refl in
      sym so_far.value ∙ step

pub all_read : (start lines : List (List ℕ)) (number : ℕ) (scenarios : List ScenLine) → lines ≡ [] → AreReadTo start number scenarios lines
    → scenarios_in 2 [] start ≡ Ok scenarios
unfolding scenarios_in
all_read start lines number scenarios none so_far =
    let end : scenarios_in number scenarios lines ≡ Ok scenarios = rw none refl in
    sym so_far.value ∙ end

pub other_version : (text : List ℕ) → is_version_line (get_or (lines_of text) 0 []) ≡ false → scenarios_of text ≡ Err Version
unfolding scenarios_of
other_version text no' = rw no' refl

pub after_version : (text : List ℕ) (r : Result (List ScenLine) ScenFault) → is_version_line (get_or (lines_of text) 0 []) ≡ true
    → scenarios_in 2 [] (drop 1 (lines_of text)) ≡ r → scenarios_of text ≡ r
unfolding scenarios_of
after_version text r version e = rw version e

pub version_is : (text line : List ℕ) (lines : List (List ℕ)) (b : Bool) → lines ≡ lines_of text → line ≡ get_or lines 0 [] → b ≡ is_version_line line
    → is_version_line (get_or (lines_of text) 0 []) ≡ b
version_is text line lines b lines-are line-is e = rw (← lines-are, ← line-is) (sym e)

pub none_read : (text : List ℕ) (lines rest : List (List ℕ)) (scenarios : List ScenLine) → length text ≤ MAX_SCEN_BYTES → lines ≡ lines_of text → rest ≡ drop 1 lines → scenarios ≡ []
    → AreReadTo (drop 1 (lines_of text)) 2 scenarios rest
none_read text lines rest scenarios few lines-are rest-is none =
    let rest-are : rest ≡ drop 1 (lines_of text) = rest-is ∙ ap (λ (ls : List (List ℕ)). drop 1 ls) lines-are in
    let long = ap (λ (ls : List (List ℕ)). length ls) rest-are in
    record { value = rw (none, rest-are) refl; few = omega (arith, few_lines text, long, length-drop 1 (lines_of text)) }
