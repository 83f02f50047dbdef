-- Which moves lead to a place whose key and the step make a key.
use Rattle.std.proofs.Common.{◌≡◌, ℕ, ◌+◌, ◌%◌, ◌^◌, ◌<◌, ◌≤◌, ◌⊎◌, ◌↔◌, cond, eqb, List, inl, inr, refl, sym, subst, ◌∙◌, arith}
use Rattle.moves.specs.declared.Move.{Move}
use Rattle.moves.specs.declared.Move.TheVariants.{N, NE, E, SE, S, SW, W, NW}
use Rattle.moves.specs.MoveSets.{Has}
use Rattle.moves.proofs.MovesInSets.{Has-none}
use Rattle.lane_rows.specs.Tables.{end_of}
use Rattle.lane_rows.specs.Equations.{far, offered}
use Rattle.lane_rows.proofs.Sets.{Has-equal}

-- one move, where a place's key and the step make the key
pub leads_where : (here at at' further equal single step to count : ℕ) (move by : Move) → at' ≡ at → at ≤ far → step ≤ 65536 → further ≡ (at' + step) % 2 ^ 32 → equal ≡ cond (eqb here further) 255 0
    → Has single move ↔ (Has 0 move ⊎ (move ≡ by)) → to < count → {R : Type 0} → R ↔ (Has equal move × Has single move) → R ↔ ((move ≡ by) × (to < count) × (here ≡ at + step))
leads_where here at at' further equal single step to count move by i a t e f s within r =
    let same = Has-equal here further equal move f in
    let sum : further ≡ at + step = omega arith in (
      λ h. let parts = r.0 h in (elim (s.0 parts.1) [ inl n ↦ absurd (Has-none move n) | inr is ↦ is ], within, same.0 parts.0 ∙ sum),
      λ h. r.1 (same.1 (h.2 ∙ sym sum), s.1 (inr h.0)),
    )

-- what one move tells
abbrev pub Leads : List ℕ → (ℕ → ℕ) → ℕ → ℕ → Move → Move → Type 0
Leads edges keys count key by move = (move ≡ by) × (end_of edges by < count) × (key ≡ offered edges keys by)

pub leads_all : (edges : List ℕ) (keys : ℕ → ℕ) (count key : ℕ) (move : Move) → {n ne e se s sw w nw north east south west one-t two-t whole-t : Type 0}
    → n ↔ Leads edges keys count key N move → ne ↔ Leads edges keys count key NE move → e ↔ Leads edges keys count key E move → se ↔ Leads edges keys count key SE move
    → s ↔ Leads edges keys count key S move → sw ↔ Leads edges keys count key SW move → w ↔ Leads edges keys count key W move → nw ↔ Leads edges keys count key NW move
    → north ↔ (n ⊎ ne) → east ↔ (e ⊎ se) → south ↔ (s ⊎ sw) → west ↔ (w ⊎ nw) → one-t ↔ (north ⊎ east) → two-t ↔ (south ⊎ west) → whole-t ↔ (one-t ⊎ two-t)
    → whole-t ↔ ((end_of edges move < count) × (key ≡ offered edges keys move))
leads_all edges keys count key move {one-t = one-t} {two-t = two-t} n ne e se s sw w nw north east south west one two whole = (
  λ h. elim (whole.0 h) [
    | inl a ↦ elim (one.0 a) [
      | inl b ↦ elim (north.0 b) [ inl d ↦ is N (n.0 d) | inr d ↦ is NE (ne.0 d) ]
      | inr b ↦ elim (east.0 b) [ inl d ↦ is E (e.0 d) | inr d ↦ is SE (se.0 d) ]
    ]
    | inr a ↦ elim (two.0 a) [
      | inl b ↦ elim (south.0 b) [ inl d ↦ is S (s.0 d) | inr d ↦ is SW (sw.0 d) ]
      | inr b ↦ elim (west.0 b) [ inl d ↦ is W (w.0 d) | inr d ↦ is NW (nw.0 d) ]
    ]
  ],
  λ h. whole.1 (from move refl h),
)
  where
    is : (by : Move) → Leads edges keys count key by move → (end_of edges move < count) × (key ≡ offered edges keys move)
    is by h = subst (λ m. (end_of edges m < count) × (key ≡ offered edges keys m)) (sym h.0) (h.1, h.2)

    back : (by : Move) → move ≡ by → (end_of edges move < count) × (key ≡ offered edges keys move) → Leads edges keys count key by move
    back by same h = let parts = subst (λ m. (end_of edges m < count) × (key ≡ offered edges keys m)) same h in (same, parts.0, parts.1)

    from : (by : Move) → move ≡ by → (end_of edges move < count) × (key ≡ offered edges keys move) → one-t ⊎ two-t
    from N same h = inl (one.1 (inl (north.1 (inl (n.1 (back N same h))))))
    from NE same h = inl (one.1 (inl (north.1 (inr (ne.1 (back NE same h))))))
    from E same h = inl (one.1 (inr (east.1 (inl (e.1 (back E same h))))))
    from SE same h = inl (one.1 (inr (east.1 (inr (se.1 (back SE same h))))))
    from S same h = inr (two.1 (inl (south.1 (inl (s.1 (back S same h))))))
    from SW same h = inr (two.1 (inl (south.1 (inr (sw.1 (back SW same h))))))
    from W same h = inr (two.1 (inr (west.1 (inl (w.1 (back W same h))))))
    from NW same h = inr (two.1 (inr (west.1 (inr (nw.1 (back NW same h))))))
