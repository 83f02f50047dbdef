-- The lines of a report, one by one.
use Rattle.std.proofs.Common.{◌≡◌, ℕ, suc, ◌+◌, ◌<◌, List, [], ◌∷◌, ◌++◌, length, get_or, take, refl, sym, ap, subst, ◌∙◌, append_assoc, arith}
use Rattle.std.proofs.lemmas.List.{append-nil, take_more, length-take-le}
use Rattle.std.proofs.Math.Seq.{take-length}
use Rattle.std.specs.Prelude.{codes}
use Rattle.std.specs.Fmt.{decimal}
use Rattle.scen_run.specs.declared.results.LineResult.{LineResult}
use Rattle.scen_run.specs.Inside.{AddsLine}
use Rattle.scen_run.specs.Reports.{IsSaidOf, AreResultLines, IsReport, numbered_line, totals_line}

-- a line more
lines_push : (number : ℕ) (results : List LineResult) (text : List ℕ) (result : LineResult) (said : List ℕ)
    → AreResultLines number results text → IsSaidOf result said
    → AreResultLines number (results ++ result ∷ []) (text ++ numbered_line (number + length results) said)
lines_push number [] text result said are is =
    let same : number + 0 ≡ number = omega arith in
    (said, [], is, refl, ap (λ t. t ++ numbered_line (number + 0) said) are ∙ ap (λ n. numbered_line n said) same ∙ sym (append-nil (numbered_line number said)))
lines_push number (first ∷ rest) text result said are is =
    let same : number + suc (length rest) ≡ number + 1 + length rest = omega arith in (
      are.0,
      are.1 ++ numbered_line (number + 1 + length rest) said,
      are.2,
      lines_push (number + 1) rest are.1 result said are.3 is,
      ap (λ t. t ++ numbered_line (number + suc (length rest)) said) are.4
          ∙ ap (λ n. (numbered_line number are.0 ++ are.1) ++ numbered_line n said) same
          ∙ append_assoc (numbered_line number are.0) are.1 (numbered_line (number + 1 + length rest) said),
    )

-- the lines of the results before a place
abbrev pub AreLinesTo : List LineResult → ℕ → List ℕ → Type 0
AreLinesTo results place text = AreResultLines 1 (take place results) text

pub lines_more : (results : List LineResult) (place : ℕ) (result : LineResult) (text next : List ℕ) → place < length results
    → result ≡ get_or results place result → AreLinesTo results place text → AddsLine (place + 1) result text next → AreLinesTo results (place + 1) next
lines_more results place result text next less is are adds =
    let long = length-take-le place results (omega arith) in
    let number : 1 + length (take place results) ≡ place + 1 = omega (arith, long) in
    let more : take place results ++ result ∷ [] ≡ take (place + 1) results =
    ap (λ r. take place results ++ r ∷ []) is ∙ sym (take_more results place result less) in
    let added = ap (λ n. text ++ numbered_line n adds.said) number ∙ sym adds.added in
    subst (λ rs. AreResultLines 1 rs next) more
    (subst (AreResultLines 1 (take place results ++ result ∷ [])) added
    (lines_push 1 (take place results) text result adds.said are adds.is))

pub lines_all : (results : List LineResult) (place : ℕ) (text next : List ℕ) → place ≡ length results → AreLinesTo results place text
    → next ≡ text ++ totals_line results → IsReport results next
lines_all results place text next end are is = record {
  lines = text;
  are = subst (λ rs. AreResultLines 1 rs text) (ap (λ n. take n results) end ∙ take-length results) are;
  is = is;
}

-- the last line, piece by piece
pub totals_written : (text : List ℕ) (n a b c d e : ℕ)
    → ((((((text ++ (codes "scenarios " ++ decimal n)) ++ (codes " match " ++ decimal a)) ++ (codes " differs " ++ decimal b))
    ++ (codes " unreachable " ++ decimal c)) ++ (codes " refused " ++ decimal d)) ++ (codes " scaled " ++ decimal e)) ++ codes "\n"
    ≡ text ++ (codes "scenarios " ++ decimal n ++ codes " match " ++ decimal a ++ codes " differs " ++ decimal b
    ++ codes " unreachable " ++ decimal c ++ codes " refused " ++ decimal d ++ codes " scaled " ++ decimal e ++ codes "\n")
totals_written text n a b c d e = simp append_assoc
