-- The text of scenarios, piece by piece.
use Rattle.std.proofs.Common.{◌≡◌, ℕ, suc, ◌+◌, ◌-◌, ◌/◌, ◌%◌, ◌^◌, ◌<◌, ◌≤◌, List, [], ◌∷◌, ◌++◌, length, get_or, take, refl, sym, ap, ◌∙◌, append_assoc, arith}
use Rattle.std.specs.Prelude.{map, codes}
use Rattle.std.specs.List.{flat_map}
use Rattle.std.specs.Fmt.{decimal}
use Rattle.std.proofs.lemmas.List.{append-nil, map_more, take_all}
use Rattle.std.proofs.lemmas.Grind.{flat_map-append}
use Rattle.text_lines.specs.Lines.{with_feed, text_with_lines}
use Rattle.scen_read.specs.declared.scenario.ScenLine.{ScenLine}
use Rattle.scen_read.specs.Inside.{ended}
use Rattle.scen_read.specs.Written.{last_digits, scenario_text, text_of}

-- one digit more
pub digits_more : (text next start : List ℕ) (place number : ℕ) → place < 9 → next ≡ text ++ (48 + number / 10 ^ (8 - place) % 10) ∷ []
    → text ++ last_digits (9 - place) number ≡ start → next ++ last_digits (9 - (place + 1)) number ≡ start
unfolding last_digits
digits_more text next start place number lt next-is so_far =
    let now : 9 - place ≡ suc (8 - place) = omega arith in
    let left : 9 - (place + 1) ≡ 8 - place = omega arith in
    let digit = 48 + number / 10 ^ (8 - place) % 10 in
    let step : text ++ last_digits (9 - place) number ≡ text ++ digit ∷ last_digits (8 - place) number = rw now refl in
    rw (next-is, left) (append_assoc text (digit ∷ []) (last_digits (8 - place) number) ∙ sym step ∙ so_far)

pub digits_all : (text start : List ℕ) (place number : ℕ) → 9 ≤ place → text ++ last_digits (9 - place) number ≡ start → text ≡ start
unfolding last_digits
digits_all text start place number le so_far =
    let none : 9 - place ≡ 0 = omega arith in
    let same : text ++ last_digits (9 - place) number ≡ text = rw none (append-nil text) in
    sym same ∙ so_far

-- one line
pub line_written : (text : List ℕ) (s : ScenLine)
    → (((((((((((text ++ ended (decimal s.bucket) 9) ++ s.name) ++ 9 ∷ []) ++ ended (decimal s.width) 9) ++ ended (decimal s.height) 9)
    ++ ended (decimal s.start.x) 9) ++ ended (decimal s.start.y) 9) ++ ended (decimal s.goal.x) 9) ++ ended (decimal s.goal.y) 9)
    ++ ended (decimal (s.nano / 10 ^ 9)) 46) ++ last_digits 9 s.nano) ++ 10 ∷ []
    ≡ text ++ with_feed (scenario_text s)
line_written text s = simp append_assoc

-- the text of the first so many scenarios
abbrev pub IsWrittenTo : List ScenLine → List ℕ → ℕ → Type 0
IsWrittenTo scenarios text count = text ≡ text_with_lines (codes "version 1" ∷ map scenario_text (take count scenarios))

pub written_none : (scenarios : List ScenLine) (text : List ℕ) → text ≡ codes "version 1" ++ 10 ∷ [] → IsWrittenTo scenarios text 0
written_none scenarios text text-is = text-is

pub written_more : (scenarios : List ScenLine) (text next : List ℕ) (count : ℕ) (s : ScenLine) → count < length scenarios → s ≡ get_or scenarios count s
    → next ≡ text ++ with_feed (scenario_text s) → IsWrittenTo scenarios text count → IsWrittenTo scenarios next (count + 1)
written_more scenarios text next count s lt s-is next-is so_far =
    let more : map scenario_text (take (count + 1) scenarios) ≡ map scenario_text (take count scenarios) ++ scenario_text s ∷ [] =
    map_more scenario_text scenarios count s lt ∙ ap (λ (r : ScenLine). map scenario_text (take count scenarios) ++ scenario_text r ∷ []) (sym s-is) in
    let lines = codes "version 1" ∷ map scenario_text (take count scenarios) in
    let joined = flat_map-append with_feed lines (scenario_text s ∷ []) in
    let last : flat_map with_feed (scenario_text s ∷ []) ≡ with_feed (scenario_text s) = append-nil (with_feed (scenario_text s)) in
    next-is ∙ ap (λ (t : List ℕ). t ++ with_feed (scenario_text s)) so_far
    ∙ ap (λ (t : List ℕ). text_with_lines lines ++ t) (sym last) ∙ sym joined
    ∙ ap (λ (ls : List (List ℕ)). text_with_lines (codes "version 1" ∷ ls)) (sym more)

pub written_all : (scenarios : List ScenLine) (text : List ℕ) (count : ℕ) → length scenarios ≤ count → IsWrittenTo scenarios text count → text ≡ text_of scenarios
unfolding text_of
written_all scenarios text count le so_far =
    so_far ∙ ap (λ (ss : List ScenLine). text_with_lines (codes "version 1" ∷ map scenario_text ss)) (take_all count scenarios le)
