-- What is brought into a set.
use Rattle.std.proofs.Common.{◌≡◌, ℕ, ◌+◌, ◌-◌, ◌%◌, ◌^◌, ◌<◌, ◌≤◌, ◌⊎◌, ◌↔◌, Bool, true, false, cond, eqb, List, length, get_or, w8, w32, Fits, inl, inr, refl, sym, ap, subst, ◌∙◌, arith, eqb-true}
use Rattle.std.proofs.lemmas.Bool.{eqb-false}
use Rattle.moves.specs.declared.Move.{Move}
use Rattle.moves.specs.MoveSets.{Has}
use Rattle.moves.proofs.MovesInSets.{Has-all, Has-none, sets_by_moves}
use Rattle.std.proofs.lemmas.Simd.{Each1-get_or}
use Rattle.std.proofs.lemmas.List.{get_or_past}
use Rattle.std.proofs.lemmas.Bool.{cases_lt}
use lib.Lanes.{Each1}
use Rattle.moves.specs.declared.Move.TheVariants.{N, NE, E, SE, S, SW, W, NW}
use Rattle.lane_rows.specs.Tables.{end_of}
use Rattle.lane_rows.specs.Visits.{IsFull}
use Rattle.lane_rows.specs.Equations.{far, offered, IsBrought}

-- each lane of a vector fits
pub word_lane : (v : List ℕ) (lane : ℕ) → (length v ≡ 16) × Each1 (Fits w32) v → get_or v lane 0 < 2 ^ 32
word_lane v lane h = elim (cases_lt lane (length v)) [
  | inl l ↦ let f = Each1-get_or (Fits w32) v lane 0 l h.1 in f.fits
  | inr g ↦ omega (arith, get_or_past v lane 0 g)
]

pub byte_lane : (v : List ℕ) (lane : ℕ) → (length v ≡ 16) × Each1 (Fits w8) v → get_or v lane 0 < 256
byte_lane v lane h = elim (cases_lt lane (length v)) [
  | inl l ↦ let f = Each1-get_or (Fits w8) v lane 0 l h.1 in f.fits
  | inr g ↦ omega (arith, get_or_past v lane 0 g)
]

pub full_is_all : (set : ℕ) → set < 256 → IsFull set → set ≡ 255
full_is_all set l full = sets_by_moves set 255 l (omega arith) (λ m. (λ _. Has-all m, λ _. full m))

pub all_is_full : (set : ℕ) → set ≡ 255 → IsFull set
all_is_full set e m = subst (λ n. Has n m) (sym e) (Has-all m)

-- all moves where two numbers are equal, none elsewhere
pub Has-equal : (x y s : ℕ) (m : Move) → s ≡ cond (eqb x y) 255 0 → Has s m ↔ (x ≡ y)
Has-equal x y s m e = go (eqb x y) refl
  where
    go : (t : Bool) → eqb x y ≡ t → Has s m ↔ (x ≡ y)
    go true t = (λ _. eqb-true _ _ t, λ _. subst (λ n. Has n m) (sym (e ∙ ap (λ b. cond b 255 0) t)) (Has-all m))
    go false t = (λ h. absurd (Has-none m (subst (λ n. Has n m) (e ∙ ap (λ b. cond b 255 0) t) h)), λ same. absurd (eqb-false _ _ t same))

-- a key less a step, modulo 2^32
pub one_step_back : (key less at step : ℕ) → at ≤ far → key < 2 ^ 32 → step ≤ 65536 → less ≡ (key + (2 ^ 32 - step)) % 2 ^ 32 → (at ≡ less) ↔ (key ≡ at + step)
one_step_back key less at step a k s e = (λ h. omega arith, λ h. omega arith)

pub brought_where : (key less at at' held held' equal step : ℕ) → (first : Move) → at ≤ far → key < 2 ^ 32 → step ≤ 65536 → less ≡ (key + (2 ^ 32 - step)) % 2 ^ 32 → at' ≡ at
    → held' ≡ held → equal ≡ cond (eqb at' less) 255 0 → {R : Type 0} → R ↔ (Has equal first × Has held' first) → R ↔ ((key ≡ at + step) × Has held first)
brought_where key less at at' held held' equal step first a k s e i j f r =
    let same = Has-equal at' less equal first f in
    let back = one_step_back key less at step a k s e in (
      λ h. let parts = r.0 h in (back.0 (sym i ∙ same.0 parts.0), subst (λ n. Has n first) j parts.1),
      λ h. r.1 (same.1 (i ∙ back.1 h.0), subst (λ n. Has n first) (sym j) h.1),
    )

pub single_where : (source place equal single : ℕ) (move first : Move) → equal ≡ cond (eqb source place) 255 0 → Has single move ↔ (Has 0 move ⊎ (move ≡ first))
    → {R : Type 0} → R ↔ (Has equal move × Has single move) → R ↔ ((source ≡ place) × (move ≡ first))
single_where source place equal single move first e s r =
    let same = Has-equal source place equal move e in (
      λ h. let parts = r.0 h in (same.0 parts.0, elim (s.0 parts.1) [ inl n ↦ absurd (Has-none move n) | inr f ↦ f ]),
      λ h. r.1 (same.1 h.0, s.1 (inr h.1)),
    )

-- what one neighbour brings
abbrev pub Brings : List ℕ → (ℕ → ℕ) → (ℕ → ℕ) → ℕ → Move → Move → Type 0
Brings edges keys sets key first move = (key ≡ offered edges keys move) × Has (sets (end_of edges move)) first

pub union_of : (edges : List ℕ) (keys sets : ℕ → ℕ) (key : ℕ) (first : Move) → {n ne e se s sw w nw north east south west one-t two-t whole-t : Type 0}
    → n ↔ Brings edges keys sets key first N → ne ↔ Brings edges keys sets key first NE → e ↔ Brings edges keys sets key first E → se ↔ Brings edges keys sets key first SE
    → s ↔ Brings edges keys sets key first S → sw ↔ Brings edges keys sets key first SW → w ↔ Brings edges keys sets key first W → nw ↔ Brings edges keys sets key first NW
    → north ↔ (n ⊎ ne) → east ↔ (e ⊎ se) → south ↔ (s ⊎ sw) → west ↔ (w ⊎ nw) → one-t ↔ (north ⊎ east) → two-t ↔ (south ⊎ west) → whole-t ↔ (one-t ⊎ two-t)
    → whole-t ↔ IsBrought edges keys sets key first
union_of edges keys sets key first {one-t = one-t} {two-t = two-t} n ne e se s sw w nw north east south west one two whole = (
  λ h. elim (whole.0 h) [
    | inl a ↦ elim (one.0 a) [
      | inl b ↦ elim (north.0 b) [ inl d ↦ (N, (n.0 d).0, (n.0 d).1) | inr d ↦ (NE, (ne.0 d).0, (ne.0 d).1) ]
      | inr b ↦ elim (east.0 b) [ inl d ↦ (E, (e.0 d).0, (e.0 d).1) | inr d ↦ (SE, (se.0 d).0, (se.0 d).1) ]
    ]
    | inr a ↦ elim (two.0 a) [
      | inl b ↦ elim (south.0 b) [ inl d ↦ (S, (s.0 d).0, (s.0 d).1) | inr d ↦ (SW, (sw.0 d).0, (sw.0 d).1) ]
      | inr b ↦ elim (west.0 b) [ inl d ↦ (W, (w.0 d).0, (w.0 d).1) | inr d ↦ (NW, (nw.0 d).0, (nw.0 d).1) ]
    ]
  ],
  λ h. whole.1 (from h.0 (h.1, h.2)),
)
  where
    from : (move : Move) → Brings edges keys sets key first move → one-t ⊎ two-t
    from N h = inl (one.1 (inl (north.1 (inl (n.1 h)))))
    from NE h = inl (one.1 (inl (north.1 (inr (ne.1 h)))))
    from E h = inl (one.1 (inr (east.1 (inl (e.1 h)))))
    from SE h = inl (one.1 (inr (east.1 (inr (se.1 h)))))
    from S h = inr (two.1 (inl (south.1 (inl (s.1 h)))))
    from SW h = inr (two.1 (inl (south.1 (inr (sw.1 h)))))
    from W h = inr (two.1 (inr (west.1 (inl (w.1 h)))))
    from NW h = inr (two.1 (inr (west.1 (inr (nw.1 h)))))
