-- The tables of all components, from parts.
use Rattle.std.proofs.Common.{◌≡◌, ℕ, ◌+◌, ◌*◌, ◌%◌, ◌^◌, ◌<◌, ◌≤◌, List, [], ◌∷◌, length, map, get_or, take, refl, sym, ap, subst, ◌∙◌, arith}
use Rattle.std.specs.List.{flat_map, range_with_len}
use Rattle.std.proofs.lemmas.List.{take_all, get_or_past}
use Rattle.moves.specs.declared.Cell.{Cell}
use Rattle.row_store.specs.Comps.{Comp}
use Rattle.versions.specs.Databases.{Versioned, comp_at, no_comp}
use Rattle.path_image.specs.Images.{table_of, table_start}
use Rattle.path_image.proofs.Parts.{flat_more}
use Rattle.path_image.proofs.Sizes.{flat_front}
use Rattle.bake_parts.specs.declared.part_rows.PartRows.{PartRows}
use Rattle.bake_parts.specs.Joins.{AreNoParts, AreParts, BeginsAt, HasAll, HasTable, IsAt, IsNext, IsNoTable, PassesTable, PutsStarts, PutsTable, PutsTables, PutsWords, SizesTables}
use Rattle.bake_parts.specs.Plans.{HasComponent}
use Rattle.bake_parts.proofs.Reading.{at_start, nothing_left}
use Rattle.bake_parts.proofs.Joining.{words_none, words_next, words_piece}

-- behind the last component no row of a part is left
none_left : (version : Versioned) (number left : ℕ) (words : List ℕ) → length version.comps ≤ number → IsAt version number 0 left words → words ≡ []
none_left version number left words past p =
    let beyond : comp_at version.comps number ≡ no_comp = get_or_past version.comps number no_comp past in
    let size : length (comp_at version.comps number).cells ≡ 0 = ap (λ (comp : Comp). length comp.cells) beyond in
    let inside = p.inside in
    nothing_left version number left words past (omega arith) p

module _ (all : List (List Cell)) (parts : List ℕ) where
  -- the tables of the first components are read
  pub record AreSized (version : Versioned) (number size : ℕ) (rows : PartRows) : Type 0 where
    pub size_is : size ≡ length (flat_map table_of (take number version.comps))
    pub here : IsAt version number 0 rows.left rows.rest.now

  pub record IsSizing (number size : ℕ) (rows : PartRows) : Type 0 where
    pub few : size ≤ 2147483648 * number
    pub read : (version : Versioned) → HasAll version all → AreParts version parts → AreSized version number size rows

  start_here : (rows : PartRows) → rows.rest.now ≡ parts → rows.left ≡ 0 → (version : Versioned) → AreParts version parts → IsAt version 0 0 rows.left rows.rest.now
  start_here rows rest left version are = rw (rest, left) (at_start version parts are)

  -- the component with the number is next
  next_with : (version : Versioned) (has : HasAll version all) (number : ℕ) (d cells : List Cell) (rows : PartRows) → number < length all → cells ≡ get_or all number d
      → IsAt version number 0 rows.left rows.rest.now → IsNext version number cells rows
  next_with version has number d cells rows within are here =
      (record { is = has.is; has = subst (HasComponent version number) (sym are) (has.each number d within) }, here)

  pub sizing_none : (rows : PartRows) → rows.rest.now ≡ parts → rows.left ≡ 0 → IsSizing 0 0 rows
  sizing_none rows rest left = record { few = omega arith; read = λ version has are. record { size_is = refl; here = start_here rows rest left version are } }

  pub sizing_more : (number size upto more : ℕ) (d cells : List Cell) (now new : PartRows) → number < length all → cells ≡ get_or all number d → more < 2147483648
      → upto ≡ size + more → IsSizing number size now → HasTable number cells now more → PassesTable number cells now new → IsSizing (number + 1) upto new
  sizing_more number size upto more d cells now new within are few is p table passes = record {
    few = (let so = p.few in omega arith);
    read = λ version has parted.
        (let was = p.read version has parted in
        let next = next_with version has number d cells now within are was.here in
        let long = has.long in
        let size_more = flat_more table_of version.comps number no_comp (omega arith) in
        let own = table version next in
        let so = was.size_is in
        record { size_is = omega arith; here = passes version next });
  }

  pub sizing_all : (number size : ℕ) (rows : PartRows) → length all ≤ number → IsSizing number size rows → SizesTables all parts size
  sizing_all number size rows end p version has are =
      let was = p.read version has are in
      was.size_is ∙ ap (λ cs. length (flat_map table_of cs)) (take_all number version.comps (let long = has.long in omega arith))

  -- words that are left are none of the version's parts
  pub sizing_left : (number size : ℕ) (rows : PartRows) → length all ≤ number → 0 < length rows.rest.now → IsSizing number size rows → AreNoParts all parts
  sizing_left number size rows end some p version has are =
      let was = p.read version has are in
      let none = ap length (none_left version number rows.left rows.rest.now (let long = has.long in omega arith) was.here) in
      omega arith

  pub sizing_broken : (number size : ℕ) (d cells : List Cell) (rows : PartRows) → number < length all → cells ≡ get_or all number d → IsSizing number size rows
      → IsNoTable number cells rows → AreNoParts all parts
  sizing_broken number size d cells rows within are p none version has parted =
      none version (next_with version has number d cells rows within are (p.read version has parted).here)

  -- ---- where they begin

  pub record AreStarted (version : Versioned) (number begin at upto : ℕ) (old new : List ℕ) (rows : PartRows) : Type 0 where
    pub begin_is : begin ≡ table_start version number
    pub here : IsAt version number 0 rows.left rows.rest.now
    pub put : PutsWords at upto old new (map (table_start version) (range_with_len 0 number))

  pub record IsStarting (start number begin at upto : ℕ) (old new : List ℕ) (rows : PartRows) : Type 0 where
    pub end : upto ≡ at + number
    pub read : (version : Versioned) → HasAll version all → AreParts version parts → IsAt version number 0 rows.left rows.rest.now
    pub started : (version : Versioned) → HasAll version all → AreParts version parts → BeginsAt version start → AreStarted version number begin at upto old new rows

  pub starting_none : (start at : ℕ) (room : List ℕ) (rows : PartRows) → rows.rest.now ≡ parts → rows.left ≡ 0 → IsStarting start 0 start at at room room rows
  starting_none start at room rows rest left = record {
    end = omega arith;
    read = λ version has are. start_here rows rest left version are;
    started = λ version has are begins.
        record { begin_is = (let first = begins.first in omega arith); here = start_here rows rest left version are; put = words_none at room };
  }

  pub starting_more : (start number begin next at mid upto more : ℕ) (d cells : List Cell) (old room last : List ℕ) (now new : PartRows) → number < length all
      → cells ≡ get_or all number d → next ≡ (begin + more) % 2 ^ 32 → PutsWords mid upto room last (begin ∷ []) → IsStarting start number begin at mid old room now
      → HasTable number cells now more → PassesTable number cells now new → IsStarting start (number + 1) next at upto old last new
  starting_more start number begin next at mid upto more d cells old room last now new within are is put p table passes = record {
    end = (let one = put.end in let so = p.end in omega arith);
    read = λ version has parted. passes version (next_with version has number d cells now within are (p.read version has parted));
    started = λ version has parted begins.
        (let was = p.started version has parted begins in
        let upcoming = next_with version has number d cells now within are was.here in
        let long = has.long in
        let size_more = flat_more table_of version.comps number no_comp (omega arith) in
        let front = flat_front table_of version.comps (number + 1) in
        let own = table version upcoming in
        let small = begins.small in
        let so = was.begin_is in
        record {
          begin_is = omega arith;
          here = passes version upcoming;
          put = words_next (table_start version) number at mid upto old room last was.put (subst (λ b. PutsWords mid upto room last (b ∷ [])) was.begin_is put);
        });
  }

  pub starting_all : (start number begin at upto : ℕ) (old new : List ℕ) (rows : PartRows) → number ≡ length all → IsStarting start number begin at upto old new rows
      → PutsStarts all start parts at old new upto
  starting_all start number begin at upto old new rows end p version has are begins =
      let was = p.started version has are begins in
      subst (λ n. PutsWords at upto old new (map (table_start version) (range_with_len 0 n))) (end ∙ sym has.long) was.put

  pub starting_broken : (start number begin at upto : ℕ) (d cells : List Cell) (old new : List ℕ) (rows : PartRows) → number < length all → cells ≡ get_or all number d
      → IsStarting start number begin at upto old new rows → IsNoTable number cells rows → AreNoParts all parts
  starting_broken start number begin at upto d cells old new rows within are p none version has parted =
      none version (next_with version has number d cells rows within are (p.read version has parted))

  -- ---- and their words

  pub record AreTabled (version : Versioned) (number at upto : ℕ) (old new : List ℕ) (rows : PartRows) : Type 0 where
    pub here : IsAt version number 0 rows.left rows.rest.now
    pub put : PutsWords at upto old new (flat_map table_of (take number version.comps))

  pub record IsTabling (number at upto : ℕ) (old new : List ℕ) (rows : PartRows) : Type 0 where
    pub few : upto ≤ at + 2147483648 * number
    pub read : (version : Versioned) → HasAll version all → AreParts version parts → AreTabled version number at upto old new rows

  pub tabling_none : (at : ℕ) (room : List ℕ) (rows : PartRows) → rows.rest.now ≡ parts → rows.left ≡ 0 → IsTabling 0 at at room room rows
  tabling_none at room rows rest left = record {
    few = omega arith;
    read = λ version has are. record { here = start_here rows rest left version are; put = words_none at room };
  }

  pub tabling_more : (number at mid upto : ℕ) (d cells : List Cell) (old room last : List ℕ) (now new : PartRows) → number < length all → cells ≡ get_or all number d
      → upto ≤ mid + 2147483648 → IsTabling number at mid old room now → PutsTable number cells now mid room last upto → PassesTable number cells now new
      → IsTabling (number + 1) at upto old last new
  tabling_more number at mid upto d cells old room last now new within are few p table passes = record {
    few = (let so = p.few in omega arith);
    read = λ version has parted.
        (let was = p.read version has parted in
        let next = next_with version has number d cells now within are was.here in
        let long = has.long in
        record {
          here = passes version next;
          put = words_piece table_of version.comps number no_comp (omega arith) at mid upto old room last was.put (table version next);
        });
  }

  pub tabling_all : (number at upto : ℕ) (old new : List ℕ) (rows : PartRows) → length all ≤ number → IsTabling number at upto old new rows → PutsTables all parts at old new upto
  tabling_all number at upto old new rows end p version has are =
      subst (λ cs. PutsWords at upto old new (flat_map table_of cs)) (take_all number version.comps (let long = has.long in omega arith)) (p.read version has are).put

  pub tabling_broken : (number at upto : ℕ) (d cells : List Cell) (old new : List ℕ) (rows : PartRows) → number < length all → cells ≡ get_or all number d
      → IsTabling number at upto old new rows → IsNoTable number cells rows → AreNoParts all parts
  tabling_broken number at upto d cells old new rows within are p none version has parted =
      none version (next_with version has number d cells rows within are (p.read version has parted).here)
