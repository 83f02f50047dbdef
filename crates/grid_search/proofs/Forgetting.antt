-- Leaving no key at the places of some cells.
use Rattle.std.proofs.Common.{◌≡◌, ℕ, ◌+◌, ◌<◌, List, length, get_or, set, sym, ap, ◌∙◌, inl, inr, arith, Any, get_or-set_same, get_or-set_other}
use Rattle.std.proofs.lemmas.Bool.{cases_eq, cases_lt}
use Rattle.std.proofs.lemmas.List.{get_or_default}
use Rattle.moves.specs.declared.Cell.{Cell}
use Rattle.moves.specs.Maps.{place_of}
use Rattle.grid_search.specs.Keys.{HasNoKeys}
use Rattle.grid_search.specs.Forgetting.{AreForgotten}
use Rattle.root_cost.specs.declared.TheConstants.{NO_KEY}

-- no key stands at the places of the first cells, nor where none stood before
pub record IsForgotten (width : ℕ) (cells : List Cell) (before keys : List ℕ) (n : ℕ) : Type 0 where
  pub gone : (k : ℕ) (d : Cell) → k < n → k < length cells → get_or keys (place_of width (get_or cells k d)) NO_KEY ≡ NO_KEY
  pub others : (place : ℕ) → get_or before place NO_KEY ≡ NO_KEY → get_or keys place NO_KEY ≡ NO_KEY

none_after : (keys : List ℕ) (at place : ℕ) → at < length keys → get_or keys place NO_KEY ≡ NO_KEY → get_or (set keys at NO_KEY) place NO_KEY ≡ NO_KEY
none_after keys at place fits h = elim (cases_eq place at) [
  | inl same ↦ ap (λ p. get_or (set keys at NO_KEY) p NO_KEY) same ∙ get_or-set_same keys at NO_KEY NO_KEY fits
  | inr apart ↦ get_or-set_other keys at place NO_KEY NO_KEY apart ∙ h
]

pub forgotten_more : (width : ℕ) (cells : List Cell) (before keys : List ℕ) (n at : ℕ) (cell : Cell) → n < length cells → cell ≡ get_or cells n cell
    → at ≡ place_of width cell
    → at < length keys → IsForgotten width cells before keys n → IsForgotten width cells before (set keys at NO_KEY) (n + 1)
forgotten_more width cells before keys n at cell inside read place fits h = record {
  gone = λ k d below some. elim (cases_lt k n) [
    | inl earlier ↦ none_after keys at (place_of width (get_or cells k d)) fits (h.gone k d earlier some)
    | inr now ↦
        let here : k ≡ n = omega arith in
        let same : place_of width (get_or cells k d) ≡ at = ap (place_of width)
        (ap (λ j. get_or cells j d) here ∙ get_or_default cells n d cell inside ∙ sym read) ∙ sym place in
        ap (λ p. get_or (set keys at NO_KEY) p NO_KEY) same ∙ get_or-set_same keys at NO_KEY NO_KEY fits
  ];
  others = λ place none. none_after keys at place fits (h.others place none);
}

pub forgotten_all : (width : ℕ) (cells : List Cell) (before keys : List ℕ) (n : ℕ) → length cells ≡ n → IsForgotten width cells before keys n
    → AreForgotten width cells before keys
forgotten_all width cells before keys n whole h = record {
  gone = λ place (k, cell, inside, read, e). ap (λ p. get_or keys p NO_KEY) (sym e ∙ ap (place_of width) (sym read)) ∙ h.gone k cell (omega arith) inside;
  others = h.others;
}

-- where keys stand only at the places of those cells, none is left
pub none_left : (width : ℕ) (cells : List Cell) (before keys : List ℕ)
    → ((place : ℕ) → (get_or before place NO_KEY ≡ NO_KEY → ⊥) → Any (λ cell. place_of width cell ≡ place) cells)
    → AreForgotten width cells before keys → HasNoKeys keys
none_left width cells before keys written forgotten place = elim (cases_eq (get_or before place NO_KEY) NO_KEY) [
  | inl none ↦ forgotten.others place none
  | inr some ↦ forgotten.gone place (written place some)
]
