-- How many cells come before one, in the order of the components.
use Rattle.std.proofs.Common.{◌≡◌, ℕ, zero, suc, ◌+◌, ◌<◌, ◌≤◌, List, [], ◌∷◌, ◌++◌, length, take, refl, sym, ap, ◌∙◌, inl, inr, append-nil, arith}
use Rattle.std.proofs.lemmas.Bool.{cases_lt}
use Rattle.std.proofs.lemmas.List.{length-append, take_more, take_all}
use Rattle.std.proofs.lemmas.List.Concat.{flat_map-append}
use Rattle.row_store.specs.Comps.{Comp}
use Rattle.versions.specs.Databases.{Versioned, comp_at, no_comp}
use Rattle.bake_parts.specs.declared.sources.Sources.{Sources}
use Rattle.bake_parts.specs.Parts.{HasSources}
use Rattle.bake_parts.specs.Joins.{cells_of, spot, GoOn}

-- the first components have no more cells than more of them
take_cells : (comps : List Comp) (a b : ℕ) → a ≤ b → length (cells_of (take a comps)) ≤ length (cells_of (take b comps))
take_cells comps zero b few = omega arith
take_cells [] (suc a) zero few = absurd (omega arith)
take_cells [] (suc a) (suc b) few = omega arith
take_cells (comp ∷ comps) (suc a) zero few = absurd (omega arith)
take_cells (comp ∷ comps) (suc a) (suc b) few =
    let rest = take_cells comps a b (omega arith) in
    let one = length-append comp.cells (cells_of (take a comps)) in
    let two = length-append comp.cells (cells_of (take b comps)) in
    omega arith

module _ (version : Versioned) where
  size_of : ℕ → ℕ
  size_of c = length (comp_at version.comps c).cells

  -- the cells before a component, and its own
  pub spot_more : (c : ℕ) → c < length version.comps → spot version (c + 1) 0 ≡ spot version c 0 + length (comp_at version.comps c).cells
  spot_more c within =
      let comps = version.comps in
      let more = ap (λ ys. length (cells_of ys)) (take_more comps c no_comp within)
      ∙ ap length (flat_map-append (λ (comp : Comp). comp.cells) (take c comps) (comp_at comps c ∷ []))
      ∙ length-append (cells_of (take c comps)) ((comp_at comps c).cells ++ []) in
      let own = ap length (append-nil (comp_at comps c).cells) in
      omega arith

  -- all cells come before the end
  pub spot_end : (c : ℕ) → length version.comps ≤ c → spot version c 0 ≡ length (cells_of version.comps)
  spot_end c past = (let all = ap (λ ys. length (cells_of ys)) (take_all c version.comps past) in omega arith)

  spot_le : (a b : ℕ) → a ≤ b → spot version a 0 ≤ spot version b 0
  spot_le a b few = (let le = take_cells version.comps a b few in omega arith)

  pub spot_inside : (c : ℕ) → c < length version.comps → spot version c 0 + length (comp_at version.comps c).cells ≤ length (cells_of version.comps)
  spot_inside c within =
      let more = spot_more c within in
      let le = spot_le (c + 1) (length version.comps) (omega arith) in
      let all = spot_end (length version.comps) (omega arith) in
      omega arith

  -- a place of a component is that of no other
  pub record AreSame (a b p q : ℕ) : Type 0 where
    pub component : a ≡ b
    pub place : p ≡ q

  pub same_spot : (a b p q : ℕ) → a < length version.comps → b < length version.comps → p < length (comp_at version.comps a).cells
      → q < length (comp_at version.comps b).cells → spot version a p ≡ spot version b q → AreSame a b p q
  same_spot a b p q wa wb ia ib same =
      elim (cases_lt a b) [
        | inl less ↦
            let more = spot_more a wa in
            let le = spot_le (a + 1) b (omega arith) in
            absurd (omega arith)
        | inr past ↦
            elim (cases_lt b a) [
              | inl less ↦
                  let more = spot_more b wb in
                  let le = spot_le (b + 1) a (omega arith) in
                  absurd (omega arith)
              | inr least ↦
                  let one : a ≡ b = omega arith in
                  let own : spot version a 0 ≡ spot version b 0 = ap (λ c. spot version c 0) one in
                  record { component = one; place = omega arith }
            ]
      ]

  -- the next sources are those that begin at the place
  pub record GoesOnAt (component place : ℕ) (cut : List Sources) : Type 0 where
    pub sources : Sources
    pub more : List Sources
    pub is : cut ≡ sources ∷ more
    pub has : HasSources version sources
    pub component_is : sources.component ≡ component
    pub place_is : sources.first ≡ place
    pub behind : GoOn version (spot version component place + sources.count) more

  pub goes_on : (component place at : ℕ) (cut : List Sources) → component < length version.comps → place < length (comp_at version.comps component).cells
      → at ≡ spot version component place → GoOn version at cut → GoesOnAt component place cut
  goes_on component place at [] within inside here on = (let last = spot_inside component within in absurd (omega arith))
  goes_on component place at (sources ∷ more) within inside here on =
      let has = on.0 in
      let some = has.some in
      let room = has.inside in
      let same = same_spot sources.component component sources.first place has.component within (omega arith) inside (on.1 ∙ here) in
      record {
        sources = sources;
        more = more;
        is = refl;
        has = has;
        component_is = same.component;
        place_is = same.place;
        behind = rw (sym here) on.2;
      }

  -- and behind the last cell none are
  pub goes_nowhere : (at : ℕ) (cut : List Sources) → at ≡ length (cells_of version.comps) → GoOn version at cut → cut ≡ []
  goes_nowhere at [] end on = refl
  goes_nowhere at (sources ∷ more) end on =
      let has = on.0 in
      let some = has.some in
      let room = has.inside in
      let here = on.1 in
      let last = spot_inside sources.component has.component in
      absurd (omega arith)
