-- Parts that are read row by row.
use Rattle.std.proofs.Common.{◌≡◌, ℕ, suc, ◌+◌, ◌-◌, ◌<◌, ◌≤◌, List, [], ◌∷◌, ◌++◌, length, get_or, take, drop, refl, sym, ap, subst, ◌∙◌, append_assoc, arith}
use Rattle.std.specs.List.{flat_map}
use Rattle.std.proofs.lemmas.List.{length-map, length-drop, drop_more, take_all, take_at, drop_at}
use Rattle.run_pack.specs.declared.Run.{Run}
use Rattle.run_pack.specs.Runs.{word_of}
use Rattle.run_pack.proofs.RowLemmas.{length-row}
use Rattle.row_store.specs.Rows.{row_at}
use Rattle.row_store.specs.Comps.{IsComp}
use Rattle.versions.specs.Databases.{Versioned, comp_at}
use Rattle.path_image.specs.Images.{row_words}
use Rattle.bake_parts.specs.Parts.{counted_row, counted_rows, part_of}
use Rattle.bake_parts.specs.declared.part_rows.PartRows.{PartRows}
use Rattle.bake_parts.specs.Joins.{AreParts, BeginsPart, GoOn, IsAt, IsNoRow, IsOf, ReadsRow, spot}
use Rattle.bake_parts.proofs.Parting.{part_is}
use Rattle.bake_parts.proofs.Spots.{goes_on, goes_nowhere, spot_more, spot_end}

-- the rows of a part, one by one
counted_first : (rows : List (List Run)) (first left : ℕ) → first < length rows
    → counted_rows rows first (suc left) ≡ counted_row (row_at rows first) ++ counted_rows rows (first + 1) left
counted_first rows first left within = ap (λ xs. flat_map counted_row (take (suc left) xs)) (drop_more rows first [] within)

-- before all parts
pub at_start : (version : Versioned) (words : List ℕ) → AreParts version words → IsAt version 0 0 0 words
at_start version words p = record { cut = p.cut; behind = p.all; inside = omega arith; are = p.are }

module _ (version : Versioned) (component size : ℕ) (of : IsOf version component size) where
  whole : IsComp (comp_at version.comps component)
  whole = (of.is.database.each component of.within).whole

  -- the head of the next part
  pub record IsHead (place : ℕ) (words : List ℕ) : Type 0 where
    pub count : ℕ
    pub rest : List ℕ
    pub some : 0 < count
    pub inside : place + count ≤ size
    pub is : words ≡ component ∷ place ∷ count ∷ rest
    pub at : IsAt version component place count rest

  pub head_is : (place : ℕ) (words : List ℕ) → place < size → IsAt version component place 0 words → IsHead place words
  head_is place words within p =
      let long = of.long in
      let next = goes_on version component place (spot version component place + 0) p.cut of.within (omega arith) (omega arith) p.behind in
      let s = next.sources in
      let rows = (comp_at version.comps component).rows in
      let here : part_of version s ≡ component ∷ place ∷ s.count ∷ counted_rows rows place s.count =
      part_is version s ∙ ap (λ c. c ∷ s.first ∷ s.count ∷ counted_rows (comp_at version.comps c).rows s.first s.count) next.component_is
      ∙ ap (λ f. component ∷ f ∷ s.count ∷ counted_rows rows f s.count) next.place_is in
      let all = p.are ∙ ap (flat_map (part_of version)) next.is ∙ ap (λ ws. ws ++ flat_map (part_of version) next.more) here in
      let room = next.has.inside in
      let cells : length (comp_at version.comps s.component).cells ≡ size = ap (λ c. length (comp_at version.comps c).cells) next.component_is ∙ sym long in
      let first = next.place_is in
      record {
        count = s.count;
        rest = counted_rows rows place s.count ++ flat_map (part_of version) next.more;
        some = next.has.some;
        inside = omega arith;
        is = all;
        at = record { cut = next.more; behind = next.behind; inside = omega arith; are = refl };
      }

  -- the next row
  pub record IsRowNext (place left : ℕ) (words : List ℕ) : Type 0 where
    pub rest : List ℕ
    pub few : length (row_words (row_at (comp_at version.comps component).rows place)) ≤ size
    pub is : words ≡ length (row_words (row_at (comp_at version.comps component).rows place)) ∷ (row_words (row_at (comp_at version.comps component).rows place) ++ rest)
    pub at : IsAt version component (place + 1) left rest

  pub row_is : (place left all : ℕ) (words : List ℕ) → all ≡ suc left → IsAt version component place all words → IsRowNext place left words
  row_is place left all words more p =
      let rows = (comp_at version.comps component).rows in
      let row = row_at rows place in
      let long = of.long in
      let many = whole.rows.whole in
      let inside = p.inside in
      let there : place < length rows = omega arith in
      let tight = (whole.rows.each place (omega arith)).tight in
      let sets = (whole.rows.each place (omega arith)).first.whole in
      let short = length-row row _ tight.row in
      let runs : length (row_words row) ≡ length row = length-map row word_of in
      let behind = flat_map (part_of version) p.cut in
      let rest = counted_rows rows (place + 1) left ++ behind in
      record {
        rest = rest;
        few = omega arith;
        is =
            p.are ∙ ap (λ n. counted_rows rows place n ++ behind) more ∙ ap (λ ws. ws ++ behind) (counted_first rows place left there)
            ∙ append_assoc (counted_row row) (counted_rows rows (place + 1) left) behind
            ∙ ap (λ n. n ∷ (row_words row ++ rest)) (sym runs);
        at = record {
          cut = p.cut;
          behind = subst (λ n. GoOn version n p.cut) (let e : spot version component place + all ≡ spot version component (place + 1) + left = omega arith in e) p.behind;
          inside = omega arith;
          are = refl;
        };
      }

  -- behind the last row comes the next component
  pub at_next : (left : ℕ) (words : List ℕ) → IsAt version component size left words → IsAt version (component + 1) 0 left words
  at_next left words p =
      let long = of.long in
      let inside = p.inside in
      let none : left ≡ 0 = omega arith in
      let more = spot_more version component of.within in
      record {
        cut = p.cut;
        behind = subst (λ n. GoOn version n p.cut) (let e : spot version component size + left ≡ spot version (component + 1) 0 + left = omega arith in e) p.behind;
        inside = omega arith;
        are =
            p.are ∙ ap (λ n. counted_rows (comp_at version.comps component).rows size n ++ flat_map (part_of version) p.cut) none
            ∙ ap (λ n. counted_rows (comp_at version.comps (component + 1)).rows 0 n ++ flat_map (part_of version) p.cut) (sym none);
      }

-- words that begin with a row are those of that row
pub record AreCutSame (a b c d : List ℕ) : Type 0 where
  pub row : a ≡ b
  pub rest : c ≡ d

pub cut_same : (words a b c d : List ℕ) → words ≡ length a ∷ (a ++ c) → words ≡ length b ∷ (b ++ d) → AreCutSame a b c d
cut_same words a b c d p q =
    let both = sym p ∙ q in
    let long : length a ≡ length b = ap (λ ws. get_or ws 0 0) both in
    let tails : a ++ c ≡ b ++ d = ap (drop 1) both in
    record {
      row = sym (take_at a c (length a) refl) ∙ ap (take (length a)) tails ∙ take_at b d (length a) (sym long);
      rest = sym (drop_at a c (length a) refl) ∙ ap (drop (length a)) tails ∙ drop_at b d (length a) (sym long);
    }

-- nothing is left behind the last component
pub nothing_left : (version : Versioned) (component left : ℕ) (words : List ℕ) → length version.comps ≤ component → left ≡ 0 → IsAt version component 0 left words → words ≡ []
nothing_left version component left words past none p =
    let end = spot_end version component past in
    let cut = goes_nowhere version (spot version component 0 + left) p.cut (omega arith) p.behind in
    p.are ∙ ap (λ n. counted_rows (comp_at version.comps component).rows 0 n ++ flat_map (part_of version) p.cut) none ∙ ap (flat_map (part_of version)) cut

-- ---- one call after the other

-- the head of a part is read
pub head_read : (component place size left count : ℕ) (words rest : List ℕ) → place < size → left ≡ 0 → words ≡ component ∷ place ∷ count ∷ rest
    → (version : Versioned) → IsOf version component size → IsAt version component place left words → IsAt version component place count (take (length words - 3) (drop 3 words))
head_read component place size left count words rest within none was version of at =
    let head = head_is version component size of place words within (subst (λ n. IsAt version component place n words) none at) in
    let both = sym was ∙ head.is in
    let same_count : count ≡ head.count = ap (λ ws. get_or ws 2 0) both in
    let size_left = length-drop 3 words in
    let behind : take (length words - 3) (drop 3 words) ≡ head.rest = take_all (length words - 3) (drop 3 words) (omega arith) ∙ ap (drop 3) head.is in
    subst (λ ws. IsAt version component place count ws) (sym behind) (subst (λ n. IsAt version component place n head.rest) (sym same_count) head.at)

-- there is none
pub head_none : (component place size left : ℕ) (words : List ℕ) → place < size → left ≡ 0
    → ((count : ℕ) (rest : List ℕ) → 0 < count → place + count ≤ size → words ≡ component ∷ place ∷ count ∷ rest → ⊥)
    → (version : Versioned) → IsOf version component size → IsAt version component place left words → ⊥
head_none component place size left words within none never version of at =
    let head = head_is version component size of place words within (subst (λ n. IsAt version component place n words) none at) in
    never head.count head.rest head.some head.inside head.is

-- and then a row
pub row_read : (component place size : ℕ) (old mid new : PartRows) (row : List ℕ) → BeginsPart component place size old mid → mid.left ≡ new.left + 1
    → mid.rest.now ≡ length row ∷ (row ++ new.rest.now) → ReadsRow component place size old new row
row_read component place size old mid new row begins left is version of at =
    let next = row_is version component size of place new.left mid.left mid.rest.now (omega arith) (begins version of at) in
    let same = cut_same mid.rest.now row (row_words (row_at (comp_at version.comps component).rows place)) new.rest.now next.rest is next.is in
    (same.row, subst (IsAt version component (place + 1) new.left) (sym same.rest) next.at)

pub row_none : (component place size : ℕ) (old mid : PartRows) → BeginsPart component place size old mid → 0 < mid.left
    → ((row rest : List ℕ) → length row ≤ size → mid.rest.now ≡ length row ∷ (row ++ rest) → ⊥) → IsNoRow component place size old
row_none component place size old mid begins some never version of at =
    let next = row_is version component size of place (mid.left - 1) mid.left mid.rest.now (omega arith) (begins version of at) in
    never (row_words (row_at (comp_at version.comps component).rows place)) next.rest next.few next.is
