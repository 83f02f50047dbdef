-- Places beside a place, sets brought from there, and tests by arithmetic.
use Rattle.std.proofs.Common.{◌≡◌, ◌≢◌, ◌⊎◌, ◌↔◌, ℕ, ◌+◌, ◌-◌, ◌*◌, ◌/◌, ◌%◌, ◌^◌, ◌<◌, ◌≤◌, inl, inr, sym, ap, subst, ◌∙◌, arith, List, [], length, get_or}
use Rattle.std.specs.Int.{bit_at}
use Rattle.std.specs.Int.RustNames.{bit_or, bit_xor}
use Rattle.std.specs.Int.Bits.{bit_and}
use Rattle.std.proofs.lemmas.Bool.{cases_eq, cases_lt}
use Rattle.std.proofs.lemmas.Nat.{xor_lt}
use Rattle.std.proofs.lemmas.Nat.Bits.{bit_at_xor, bit_at-lt, bit_at-zero, same_from_bits, shr_and_one}
use Rattle.moves.specs.declared.Move.{Move}
use Rattle.moves.specs.declared.Move.TheVariants.{N, NE, E, SE, S, SW, W, NW}
use Rattle.moves.specs.Moves.{number_of}
use Rattle.moves.specs.MoveSets.{Has}
use Rattle.moves.proofs.MoveLaws.{number_below}
use Rattle.moves.proofs.MovesInSets.{Has-bit, Has-from_bit, Has-join, Has-meet, Has-all, Has-none, move_with}
use Rattle.grid_search.specs.Keys.{move_key}
use Rattle.first_sets.specs.Places.{IsBeside, StaysWithin, IsBroughtTo}

-- ---- a test by arithmetic

same_if_no_xor : (a b : ℕ) → bit_xor a b ≡ 0 → a ≡ b
same_if_no_xor a b e = same_from_bits a b (λ i.
    let both = sym (bit_at_xor a b i) ∙ ap (λ n. bit_at n i) e ∙ bit_at-zero i in
    omega (arith, bit_at-lt a i, bit_at-lt b i))

pub none_if_apart : (a b : ℕ) → a < 9223372036854775808 → b < 9223372036854775808 → a ≢ b
    → (0 + (256 - (bit_xor a b + 18446744073709551615) % 18446744073709551616 / 9223372036854775808)) % 256 ≡ 0
none_if_apart a b p q apart =
    let low : bit_xor a b < 9223372036854775808 = xor_lt 63 a b p q in
    let some : 0 < bit_xor a b = elim (cases_eq (bit_xor a b) 0) [ inl e ↦ absurd (apart (same_if_no_xor a b e)) | inr n ↦ omega arith ] in
    omega arith

-- ---- the place beside

pub beside_legal : (legal number place distance bit to : ℕ) (by : Move) → bit ≡ bit_and (legal / 2 ^ number) 1 → number_of by ≡ number → Has legal by
    → (place + distance) % 18446744073709551616 ≡ to → (place + distance * bit % 18446744073709551616) % 18446744073709551616 ≡ to
beside_legal legal number place distance bit to by tested e has there =
    let one : bit ≡ 1 = tested ∙ shr_and_one legal number ∙ ap (bit_at legal) (sym e) ∙ Has-bit legal by has in
    rw one (omega arith)

pub beside_otherwise : (legal number place distance bit : ℕ) (by : Move) → bit ≡ bit_and (legal / 2 ^ number) 1 → number_of by ≡ number → (Has legal by → ⊥)
    → place < 18446744073709551616 → (place + distance * bit % 18446744073709551616) % 18446744073709551616 ≡ place
beside_otherwise legal number place distance bit by tested e none low =
    let at : bit ≡ bit_at legal (number_of by) = tested ∙ shr_and_one legal number ∙ ap (bit_at legal) (sym e) in
    let zero : bit ≡ 0 = elim (cases_eq (bit_at legal (number_of by)) 1) [
      | inl one ↦ absurd (none (Has-from_bit legal by one))
      | inr n ↦ omega (arith, bit_at-lt legal (number_of by))
    ] in
    rw zero (omega arith)

-- ---- sets brought from beside

-- a move from a place leads to one place
pub same_beside : (w : ℕ) (by : Move) (from a b : ℕ) → IsBeside w by from a → IsBeside w by from b → a ≡ b
same_beside w N from a b p q = omega arith
same_beside w NE from a b p q = omega arith
same_beside w E from a b p q = omega arith
same_beside w SE from a b p q = omega arith
same_beside w S from a b p q = omega arith
same_beside w SW from a b p q = omega arith
same_beside w W from a b p q = omega arith
same_beside w NW from a b p q = omega arith

-- a step costs something
step_some : (by : Move) → 0 < move_key by
step_some by = grind arith

has_or_not : (set : ℕ) (by : Move) → Has set by ⊎ (Has set by → ⊥)
has_or_not set by = elim (cases_eq (bit_at set (number_of by)) 1) [ inl e ↦ inl (Has-from_bit set by e) | inr n ↦ inr (λ h. n (Has-bit set by h)) ]

-- the move stands in the set at a place beside, which the move `by` leads to and from which a step attains the key
abbrev pub IsBroughtBy : ℕ → List ℕ → List ℕ → ℕ → ℕ → Move → Move → Type 0
IsBroughtBy w keys sets legal place by move = (from : ℕ) × Has legal by × IsBeside w by place from × (get_or keys from 0 + move_key by ≡ get_or keys place 0)
    × Has (get_or sets from 0) move

-- the set has what stood there and what the moves with numbers below `n` bring
pub record IsBroughtBelow (w : ℕ) (keys sets : List ℕ) (legal place n made : ℕ) : Type 0 where
  pub has : (move : Move) → Has made move ↔ (Has (get_or sets place 0) move
      ⊎ ((by : Move) × (number_of by < n) × IsBroughtBy w keys sets legal place by move))

pub brought_none : (w : ℕ) (keys sets : List ℕ) (legal place made : ℕ) → made ≡ get_or sets place 0 → IsBroughtBelow w keys sets legal place 0 made
brought_none w keys sets legal place made e = record {
  has = λ move. (
    λ h. inl (subst (λ s. Has s move) e h),
    λ h. elim h [ inl old ↦ subst (λ s. Has s move) (sym e) old | inr more ↦ let low = more.1 in absurd (omega arith) ],
  );
}

pub brought_all : (w : ℕ) (keys sets : List ℕ) (legal place n made : ℕ) → 8 ≤ n → IsBroughtBelow w keys sets legal place n made
    → (move : Move) → Has made move ↔ IsBroughtTo w keys sets legal place move
brought_all w keys sets legal place n made all brought move = (
  λ h. elim ((brought.has move).0 h) [ inl old ↦ inl old | inr more ↦ let by = more.2 in inr (more.0, by.0, by.1, by.2, by.3, by.4) ],
  λ h. (brought.has move).1 (elim h [
    | inl old ↦ inl old
    | inr more ↦ inr
        (more.0, (let low = number_below more.0 in omega arith), (more.1, more.2, more.3, more.4, more.5))
  ]),
)

module _ (w : ℕ) (keys sets : List ℕ) (legal place n from : ℕ) (l : n < 8) (small : length keys < 18446744073709551616)
    (near : StaysWithin w (length keys) legal place) (inside : place < length keys)
    (at_legal : (by : Move) (to : ℕ) → number_of by ≡ n → Has legal by → IsBeside w by place to → to < 18446744073709551616 → from ≡ to)
    (at_other : (by : Move) → number_of by ≡ n → (Has legal by → ⊥) → from ≡ place) where
  -- the move with this number leads there where it is in the set
  leads_there : (by : Move) → number_of by ≡ n → Has legal by → IsBeside w by place from × (from < length keys)
  leads_there by e has =
      let next = near by has in
      let to = next.0 in
      let low = next.2 in
      let here : from ≡ to = at_legal by to e has next.1 (omega arith) in
      (subst (IsBeside w by place) (sym here) next.1, omega arith)

  pub from_inside : from < length keys
  from_inside =
      let by = move_with n l in
      elim (has_or_not legal by.0) [
        | inl has ↦ (leads_there by.0 by.1 has).1
        | inr none ↦ let here = at_other by.0 by.1 none in omega arith
      ]

  -- the set after one more move has what it had and, if a step from there attains the key, what stands there
  module _ (made after step : ℕ) (brought : IsBroughtBelow w keys sets legal place n made)
      (step_is : (by : Move) → number_of by ≡ n → step ≡ move_key by)
      (joined : (move : Move) → Has after move ↔ (Has made move ⊎ ((get_or keys from 0 + step ≡ get_or keys place 0) × Has (get_or sets from 0) move))) where
    brought_if : (move : Move) → get_or keys from 0 + step ≡ get_or keys place 0 → Has (get_or sets from 0) move
        → (by : Move) × (number_of by ≡ n) × IsBroughtBy w keys sets legal place by move
    brought_if move e old =
        let by = move_with n l in
        let cost = step_is by.0 by.1 in
        elim (has_or_not legal by.0) [
          | inl has ↦
              let same = subst (λ s. get_or keys from 0 + s ≡ get_or keys place 0) cost e in
              (by.0, by.1, (from, has, (leads_there by.0 by.1 has).0, same, old))
          | inr none ↦
              let here = at_other by.0 by.1 none in
              let same : get_or keys place 0 + step ≡ get_or keys place 0 = subst (λ p. get_or keys p 0 + step ≡ get_or keys place 0) here e in
              absurd (omega (arith, step_some by.0))
        ]

    if_brought : (move by : Move) → number_of by ≡ n → IsBroughtBy w keys sets legal place by move
        → (get_or keys from 0 + step ≡ get_or keys place 0) × Has (get_or sets from 0) move
    if_brought move by e more =
        let here : from ≡ more.0 = same_beside w by place from more.0 (leads_there by e more.1).0 more.2 in
        let cost = step_is by e in
        let same : get_or keys from 0 + step ≡ get_or keys place 0 = subst (λ s. get_or keys from 0 + s ≡ get_or keys place 0) (sym cost)
        (subst (λ p. get_or keys p 0 + move_key by ≡ get_or keys place 0) (sym here) more.3) in
        (same, subst (λ p. Has (get_or sets p 0) move) (sym here) more.4)

    pub brought_more : IsBroughtBelow w keys sets legal place (n + 1) after
    brought_more = record {
      has = λ move. (
        λ h. elim ((joined move).0 h) [
          | inl old ↦ elim ((brought.has move).0 old) [ inl here ↦ inl here | inr more ↦ let low = more.1 in inr (more.0, omega arith, more.2) ]
          | inr new ↦ let more = brought_if move new.0 new.1 in let same = more.1 in inr (more.0, omega arith, more.2)
        ],
        λ h. (joined move).1 (elim h [
          | inl old ↦ inl ((brought.has move).1 (inl old))
          | inr more ↦
              let by = more.0 in
              let low = more.1 in
              elim (cases_lt (number_of by) n) [
                | inl less ↦ inl ((brought.has move).1 (inr (by, less, more.2)))
                | inr high ↦ inr (if_brought move by (omega arith) more.2)
              ]
        ]),
      );
    }

-- ---- a set is joined if two numbers are equal: by a mask that is full or empty, or by a test

pub joined_by_mask : (made set attains a b : ℕ) → (a ≡ b → attains ≡ 255) → (a ≢ b → attains ≡ 0)
    → (move : Move) → Has (bit_or made (bit_and set attains)) move ↔ (Has made move ⊎ ((a ≡ b) × Has set move))
joined_by_mask made set attains a b equal unequal move = (
  λ h. elim ((Has-join made (bit_and set attains) move).0 h) [
    | inl old ↦ inl old
    | inr new ↦
        let both = (Has-meet set attains move).0 new in
        elim (cases_eq a b) [
          | inl e ↦ inr (e, both.0)
          | inr apart ↦ absurd (Has-none move (subst (λ s. Has s move) (unequal apart) both.1))
        ]
  ],
  λ h. (Has-join made (bit_and set attains) move).1 (elim h [
    | inl old ↦ inl old
    | inr new ↦ inr ((Has-meet set attains move).1 (new.1, subst (λ s. Has s move) (sym (equal new.0)) (Has-all move)))
  ]),
)

pub joined_if_equal : (made set a b : ℕ) → a ≡ b → (move : Move) → Has (bit_or made set) move ↔ (Has made move ⊎ ((a ≡ b) × Has set move))
joined_if_equal made set a b e move = (
  λ h. elim ((Has-join made set move).0 h) [ inl old ↦ inl old | inr new ↦ inr (e, new) ],
  λ h. (Has-join made set move).1 (elim h [ inl old ↦ inl old | inr new ↦ inr new.1 ]),
)

pub kept_if_apart : (made set a b : ℕ) → a ≢ b → (move : Move) → Has made move ↔ (Has made move ⊎ ((a ≡ b) × Has set move))
kept_if_apart made set a b apart move = (λ h. inl h, λ h. elim h [ inl old ↦ old | inr new ↦ absurd (apart new.0) ])

-- ---- in the open

pub amid_above : (w size place : ℕ) → StaysWithin w size 255 place → w + 1 ≤ place
amid_above w size place near = let next = near NW (Has-all NW) in let here = next.1 in omega arith

pub amid_below : (w size place : ℕ) → StaysWithin w size 255 place → place + w + 1 < size
amid_below w size place near = let next = near SE (Has-all SE) in let here = next.1 in let low = next.2 in omega arith

pub amid_legal : (w place n : ℕ) (around : List ℕ) → ((by : Move) (to : ℕ) → IsBeside w by place to → get_or around (number_of by) 0 ≡ to)
    → (by : Move) (to : ℕ) → number_of by ≡ n → Has 255 by → IsBeside w by place to → to < 18446744073709551616 → get_or around n 0 ≡ to
amid_legal w place n around leads by to e has next low = subst (λ k. get_or around k 0 ≡ to) e (leads by to next)

pub amid_other : (place n from : ℕ) (by : Move) → number_of by ≡ n → (Has 255 by → ⊥) → from ≡ place
amid_other place n from by e none = absurd (none (Has-all by))

pub amid_inside : (w : ℕ) (keys : List ℕ) (place n : ℕ) (around : List ℕ) → n < 8 → length keys < 18446744073709551616
    → StaysWithin w (length keys) 255 place → place < length keys
    → ((by : Move) (to : ℕ) → IsBeside w by place to → get_or around (number_of by) 0 ≡ to) → get_or around n 0 < length keys
amid_inside w keys place n around l small near inside leads =
    from_inside w keys [] 255 place n (get_or around n 0) l small near inside
    (amid_legal w place n around leads) (amid_other place n (get_or around n 0))
