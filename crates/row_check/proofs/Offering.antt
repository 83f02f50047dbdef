-- The set of the moves that offer just a key, bit by bit.
use Rattle.std.proofs.Common.{◌≡◌, ◌≢◌, ℕ, ◌+◌, ◌-◌, ◌*◌, ◌^◌, ◌%◌, ◌<◌, ◌≤◌, ◌↔◌, List, length, get_or, set, bit_or, w8, inl, inr, sym, ap, subst, ◌∙◌, arith}
use Rattle.std.specs.Int.{bit_at}
use Rattle.std.proofs.lemmas.Bool.{cases_eq}
use Rattle.std.proofs.lemmas.Nat.Bits.{bit_at_or, bit_at-zero, bit_at-lt, bit_at_set_same, bit_at_set_other}
use Rattle.run_pack.specs.Sets.{Has}
use Rattle.run_pack.proofs.SetLemmas.{Has-from_bit, bit_from_Has, none_in_empty}
use Rattle.std.proofs.lemmas.List.{get_or-set_same, get_or-set_other, length-set}
use Rattle.row_check.specs.Offers.{offered, IsSetBelow, AreSetsBelow, AreSets}

pub set_none : (edges keys : List ℕ) (key : ℕ) → IsSetBelow edges keys key 0 0
set_none edges keys key = record {
  least = λ number l. absurd (omega arith);
  has = λ number l. (λ h. absurd (none_in_empty number h), λ h. absurd (let z = h.0 in omega arith));
}

-- the bit of a number is 1 in the set with it, and that of another number is as before
with_bit : (set number other : ℕ) → number < 8 → (Has (bit_or set (1 * 2 ^ number % 256)) other → (other ≢ number → Has set other))
    × ((other ≡ number) → Has (bit_or set (1 * 2 ^ number % 256)) other) × (other ≢ number → Has set other → Has (bit_or set (1 * 2 ^ number % 256)) other)
with_bit set number other l = (
  λ h apart. Has-from_bit set other (sym (bit_at_set_other w8 set number l other apart) ∙ bit_from_Has _ other h),
  λ same. Has-from_bit _ other (ap (bit_at (bit_or set (1 * 2 ^ number % 256))) same ∙ bit_at_set_same w8 set number l),
  λ apart h. Has-from_bit _ other (bit_at_set_other w8 set number l other apart ∙ bit_from_Has set other h),
)

-- nothing is added by no bit
without_bit : (set number other : ℕ) → Has (bit_or set (0 * 2 ^ number % 256)) other ↔ Has set other
without_bit set number other =
    let zero_is : 0 * 2 ^ number % 256 ≡ 0 = omega arith in
    rw zero_is (
    let bit = bit_at_or set 0 other in
    let zero_bit = bit_at-zero other in
    let low = bit_at-lt set other in (
      λ h. Has-from_bit set other (let one = bit_from_Has (bit_or set 0) other h in omega arith),
      λ h. Has-from_bit (bit_or set 0) other (let one = bit_from_Has set other h in omega arith),
    ))

pub set_more : (edges keys : List ℕ) (key number set bit now : ℕ) → IsSetBelow edges keys key number set → number < 8 → key ≤ offered edges keys number
    → (offered edges keys number ≡ key → bit ≡ 1) → (offered edges keys number ≢ key → bit ≡ 0) → now ≡ bit_or set (bit * 2 ^ number % 256)
    → IsSetBelow edges keys key (number + 1) now
set_more edges keys key number set bit now p l most yes_bit no_bit is = record {
  least = λ other m. elim (cases_eq other number) [
    | inl same ↦ rw same most
    | inr apart ↦ p.least other (omega arith)
  ];
  has = λ other m. elim (cases_eq (offered edges keys number) key) [
    | inl equal ↦
        let made : now ≡ bit_or set (1 * 2 ^ number % 256) = is ∙ ap (λ b. bit_or set (b * 2 ^ number % 256)) (yes_bit equal) in
        let parts = with_bit set number other l in
        elim (cases_eq other number) [
          | inl same ↦ (λ h. (omega arith, ap (offered edges keys) same ∙ equal), λ h. subst (λ s. Has s other) (sym made) (parts.1 same))
          | inr apart ↦ (
            λ h. let old = (p.has other m).0 (parts.0 (subst (λ s. Has s other) made h) apart) in (let low = old.0 in omega arith, old.1),
            λ h. subst (λ s. Has s other) (sym made) (parts.2 apart ((p.has other m).1 (let low = h.0 in omega arith, h.1))),
          )
        ]
    | inr different ↦
        let made : now ≡ bit_or set (0 * 2 ^ number % 256) = is ∙ ap (λ b. bit_or set (b * 2 ^ number % 256)) (no_bit different) in
        let parts = without_bit set number other in (
          λ h. let old = (p.has other m).0 (parts.0 (subst (λ s. Has s other) made h)) in (let low = old.0 in omega arith, old.1),
          λ h. subst (λ s. Has s other) (sym made) (parts.1 ((p.has other m).1 (
            elim (cases_eq other number) [
              | inl same ↦ absurd (different (ap (offered edges keys) (sym same) ∙ h.1))
              | inr apart ↦ (let low = h.0 in omega arith)
            ],
            h.1,
          ))),
        )
  ];
}

-- what a move offers, by what it has to come to
pub offer_least : (there step key : ℕ) → key - step ≤ there → key ≤ there + step
offer_least there step key most = omega arith

pub offer_is : (there step key : ℕ) → 0 < there → there + step ≡ key → there ≡ key - step
offer_is there step key some is = omega arith

pub is_offer : (there step key : ℕ) → 0 < there → there ≡ key - step → there + step ≡ key
is_offer there step key some is = omega arith

-- the sets of all places, with all moves at the target
pub sets_all : (near : List (List ℕ)) (keys sets : List ℕ) (target upto : ℕ) → AreSetsBelow near keys sets upto → length near ≤ upto → target < length near → AreSets near target keys (set sets target 255)
sets_all near keys sets target upto p all inside = record {
  whole = length-set sets target 255 ∙ p.whole;
  bytes = λ place l. elim (cases_eq place target) [
    | inl same ↦ rw (same, own) (omega arith)
    | inr apart ↦ rw (get_or-set_other sets target place 255 0 apart) (p.bytes place (omega arith))
  ];
  own = own;
  least = λ place l. (p.each place (omega arith)).least;
  each = λ place l apart. rw (get_or-set_other sets target place 255 0 apart) (p.each place (omega arith));
}
  where
    own : get_or (set sets target 255) target 0 ≡ 255
    own = get_or-set_same sets target 255 0 (omega (arith, p.whole, inside))
