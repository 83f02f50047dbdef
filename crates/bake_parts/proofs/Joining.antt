-- The words of an image, put one behind the other from its parts.
use Rattle.std.proofs.Common.{◌≡◌, ℕ, ◌+◌, ◌*◌, ◌<◌, ◌≤◌, List, [], ◌∷◌, ◌++◌, length, map, get_or, take, Result, Ok, Err, OnErr, refl, sym, ap, subst, ◌∙◌, append-nil, arith}
use Rattle.std.specs.List.{flat_map, range_with_len}
use Rattle.std.proofs.lemmas.List.{length-append, take_more, take_all, map_more}
use Rattle.std.proofs.lemmas.List.Concat.{flat_map-append}
use Rattle.std.proofs.lemmas.List.FromFn.{map-range_with_len_more}
use Rattle.moves.specs.declared.Cell.{Cell}
use Rattle.row_store.specs.Rows.{row_at}
use Rattle.versions.specs.Databases.{Versioned, comp_at}
use Rattle.path_image.specs.Images.{cell_word, row_start, row_words, table_of}
use Rattle.path_image.proofs.Parts.{flat_more}
use Rattle.path_image.proofs.Sizes.{runs_size, table_size}
use Rattle.bake_parts.specs.declared.part_rows.PartRows.{PartRows}
use Rattle.bake_parts.specs.Joins.{CountsRuns, HasTable, IsAt, IsOf, IsWith, PassesRows, PassesTable, PutsBorders, PutsRuns, PutsTable, PutsWords, ReadsRow}
use Rattle.bake_parts.specs.Rooms.{GrowsFront}
use Rattle.bake_parts.proofs.Fronts.{front_then}
use Rattle.bake_parts.proofs.Reading.{at_next}

-- what holds anyway holds on an error
pub on_err_any : {X E : Type 0} (result : Result X E) (A : Type 0) → A → OnErr result A
on_err_any (Ok x) A p = tt
on_err_any (Err e) A p = p

-- ---- words one behind the other

pub words_none : (at : ℕ) (room : List ℕ) → PutsWords at at room room []
words_none at room = record { end = omega arith; grows = λ before front long p. rw (append-nil front) p }

pub words_then : (at mid upto : ℕ) (old now new a b : List ℕ) → PutsWords at mid old now a → PutsWords mid upto now new b → PutsWords at upto old new (a ++ b)
words_then at mid upto old now new a b p q = record {
  end = (let both = length-append a b in let first = p.end in let second = q.end in omega arith);
  grows = front_then at old now new a b p.grows (subst (λ m. GrowsFront m now new b) p.end q.grows);
}

-- one more of the words that a function gives
pub words_next : (f : ℕ → ℕ) (k at mid upto : ℕ) (old now new : List ℕ) → PutsWords at mid old now (map f (range_with_len 0 k)) → PutsWords mid upto now new (f k ∷ [])
    → PutsWords at upto old new (map f (range_with_len 0 (k + 1)))
words_next f k at mid upto old now new p q =
    subst (PutsWords at upto old new) (sym (map-range_with_len_more f 0 k k (omega arith))) (words_then at mid upto old now new (map f (range_with_len 0 k)) (f k ∷ []) p q)

-- the words of one more of some things
pub words_piece : {X : Type 0} (f : X → List ℕ) (xs : List X) (k : ℕ) (d : X) → k < length xs → (at mid upto : ℕ) (old now new : List ℕ)
    → PutsWords at mid old now (flat_map f (take k xs)) → PutsWords mid upto now new (f (get_or xs k d)) → PutsWords at upto old new (flat_map f (take (k + 1) xs))
words_piece f xs k d inside at mid upto old now new p q =
    subst (PutsWords at upto old new)
    (sym (ap (flat_map f) (take_more xs k d inside) ∙ flat_map-append f (take k xs) (get_or xs k d ∷ []) ∙ ap (λ ws. flat_map f (take k xs) ++ ws) (append-nil (f (get_or xs k d)))))
    (words_then at mid upto old now new (flat_map f (take k xs)) (f (get_or xs k d)) p q)

-- the word of one more of some things
pub words_item : {X : Type 0} (f : X → ℕ) (xs : List X) (k : ℕ) (d : X) → k < length xs → (at mid upto : ℕ) (old now new : List ℕ)
    → PutsWords at mid old now (map f (take k xs)) → PutsWords mid upto now new (f (get_or xs k d) ∷ []) → PutsWords at upto old new (map f (take (k + 1) xs))
words_item f xs k d inside at mid upto old now new p q =
    subst (PutsWords at upto old new) (sym (map_more f xs k d inside)) (words_then at mid upto old now new (map f (take k xs)) (f (get_or xs k d) ∷ []) p q)

-- ---- the rows of a component

-- what is known of a version at a place of a component
module _ (version : Versioned) (component size : ℕ) (of : IsOf version component size) where
  pub rows_long : length (comp_at version.comps component).rows ≡ size
  rows_long = (let whole = (of.is.database.each component of.within).whole.rows.whole in let long = of.long in omega arith)

  pub start_more : (place : ℕ) → place < size → row_start (comp_at version.comps component).rows (place + 1)
      ≡ row_start (comp_at version.comps component).rows place + length (row_words (row_at (comp_at version.comps component).rows place))
  start_more place within = flat_more row_words (comp_at version.comps component).rows place [] (let long = rows_long in omega arith)

  pub start_all : flat_map row_words (take size (comp_at version.comps component).rows) ≡ flat_map row_words (comp_at version.comps component).rows
  start_all = ap (flat_map row_words) (take_all size (comp_at version.comps component).rows (let long = rows_long in omega arith))

-- the runs of the first rows are counted
pub record AreCounted (version : Versioned) (component place runs : ℕ) (rows : PartRows) : Type 0 where
  pub runs_are : runs ≡ row_start (comp_at version.comps component).rows place
  pub at : IsAt version component place rows.left rows.rest.now

pub record IsCounting (component size : ℕ) (before now : PartRows) (place runs : ℕ) : Type 0 where
  pub few : runs ≤ 32768 * place
  pub read : (version : Versioned) → IsOf version component size → IsAt version component 0 before.left before.rest.now → AreCounted version component place runs now

pub counting_none : (component size : ℕ) (rows : PartRows) → IsCounting component size rows rows 0 0
counting_none component size rows = record { few = omega arith; read = λ version of at. record { runs_are = refl; at = at } }

pub counting_more : (component size place runs upto : ℕ) (before now new : PartRows) (row : List ℕ) → place < size → size ≤ 32768 → length row ≤ size → upto ≡ runs + length row
    → IsCounting component size before now place runs → ReadsRow component place size now new row → IsCounting component size before new (place + 1) upto
counting_more component size place runs upto before now new row within few short is p reads = record {
  few = (let so = p.few in omega arith);
  read = λ version of at.
      (let old = p.read version of at in
      let next = reads version of old.at in
      let more = start_more version component size of place within in
      let long = ap length next.0 in
      let so = old.runs_are in
      record { runs_are = omega arith; at = next.1 });
}

pub counting_all : (component size place runs : ℕ) (before now : PartRows) → place ≡ size → IsCounting component size before now place runs → CountsRuns component size before runs
counting_all component size place runs before now end p version of at =
    let all = p.read version of at in
    all.runs_are ∙ ap (λ k. row_start (comp_at version.comps component).rows k) end ∙ ap length (start_all version component size of)

pub counting_passes : (component size place runs : ℕ) (before now : PartRows) → place ≡ size → IsCounting component size before now place runs → PassesRows component size before now
counting_passes component size place runs before now end p version of at =
    subst (λ k. IsAt version component k now.left now.rest.now) end (p.read version of at).at

-- their borders are put
pub record AreBordered (version : Versioned) (component place border : ℕ) (rows : PartRows) (at upto : ℕ) (old new : List ℕ) : Type 0 where
  pub border_is : border ≡ row_start (comp_at version.comps component).rows place
  pub here : IsAt version component place rows.left rows.rest.now
  pub put : PutsWords at upto old new (map (row_start (comp_at version.comps component).rows) (range_with_len 0 place))

pub record IsBordering (component size : ℕ) (before now : PartRows) (place border at upto : ℕ) (old new : List ℕ) : Type 0 where
  pub few : border ≤ 32768 * place
  pub end : upto ≡ at + place
  pub read : (version : Versioned) → IsOf version component size → IsAt version component 0 before.left before.rest.now
      → AreBordered version component place border now at upto old new

pub bordering_none : (component size at : ℕ) (rows : PartRows) (room : List ℕ) → IsBordering component size rows rows 0 0 at at room room
bordering_none component size at rows room = record {
  few = omega arith;
  end = omega arith;
  read = λ version of here. record { border_is = refl; here = here; put = words_none at room };
}

pub bordering_more : (component size place border next_border at mid upto : ℕ) (before now new : PartRows) (row old room last : List ℕ) → place < size → size ≤ 32768
    → length row ≤ size → next_border ≡ border + length row → PutsWords mid upto room last (border ∷ [])
    → IsBordering component size before now place border at mid old room → ReadsRow component place size now new row
    → IsBordering component size before new (place + 1) next_border at upto old last
bordering_more component size place border next_border at mid upto before now new row old room last within few short is put p reads = record {
  few = (let so = p.few in omega arith);
  end = (let one = put.end in let so = p.end in omega arith);
  read = λ version of here.
      (let was = p.read version of here in
      let next = reads version of was.here in
      let more = start_more version component size of place within in
      let long = ap length next.0 in
      let so = was.border_is in
      record {
        border_is = omega arith;
        here = next.1;
        put = words_next (row_start (comp_at version.comps component).rows) place at mid upto old room last was.put
            (subst (λ b. PutsWords mid upto room last (b ∷ [])) was.border_is put);
      });
}

pub bordering_all : (component size place border at mid upto : ℕ) (before now : PartRows) (old room last : List ℕ) → place ≡ size → PutsWords mid upto room last (border ∷ [])
    → IsBordering component size before now place border at mid old room → PutsBorders component size before at old last upto
bordering_all component size place border at mid upto before now old room last end put p version of here =
    let was = p.read version of here in
    subst (λ n. PutsWords at upto old last (map (row_start (comp_at version.comps component).rows) (range_with_len 0 (n + 1)))) end
    (words_next (row_start (comp_at version.comps component).rows) place at mid upto old room last was.put (subst (λ b. PutsWords mid upto room last (b ∷ [])) was.border_is put))

-- and their runs
pub record AreRun (version : Versioned) (component place : ℕ) (rows : PartRows) (at upto : ℕ) (old new : List ℕ) : Type 0 where
  pub here : IsAt version component place rows.left rows.rest.now
  pub put : PutsWords at upto old new (flat_map row_words (take place (comp_at version.comps component).rows))

pub record IsRunning (component size : ℕ) (before now : PartRows) (place at upto : ℕ) (old new : List ℕ) : Type 0 where
  pub few : upto ≤ at + 32768 * place
  pub read : (version : Versioned) → IsOf version component size → IsAt version component 0 before.left before.rest.now
      → AreRun version component place now at upto old new

pub running_none : (component size at : ℕ) (rows : PartRows) (room : List ℕ) → IsRunning component size rows rows 0 at at room room
running_none component size at rows room = record { few = omega arith; read = λ version of here. record { here = here; put = words_none at room } }

pub running_more : (component size place at mid upto : ℕ) (before now new : PartRows) (row old room last : List ℕ) → place < size → size ≤ 32768 → length row ≤ size
    → PutsWords mid upto room last row → IsRunning component size before now place at mid old room → ReadsRow component place size now new row
    → IsRunning component size before new (place + 1) at upto old last
running_more component size place at mid upto before now new row old room last within few short put p reads = record {
  few = (let end = put.end in let so = p.few in omega arith);
  read = λ version of here.
      (let was = p.read version of here in
      let next = reads version of was.here in
      let rows = (comp_at version.comps component).rows in
      let long = rows_long version component size of in
      record {
        here = next.1;
        put = words_piece row_words rows place [] (omega arith) at mid upto old room last was.put (subst (PutsWords mid upto room last) next.0 put);
      });
}

pub running_all : (component size place at upto : ℕ) (before now : PartRows) (old last : List ℕ) → place ≡ size → IsRunning component size before now place at upto old last
    → PutsRuns component size before at old last upto
running_all component size place at upto before now old last end p version of here =
    subst (PutsWords at upto old last) (ap (λ k. flat_map row_words (take k (comp_at version.comps component).rows)) end ∙ start_all version component size of) (p.read version of here).put

pub running_passes : (component size place at upto : ℕ) (before now : PartRows) (old last : List ℕ) → place ≡ size → IsRunning component size before now place at upto old last
    → PassesRows component size before now
running_passes component size place at upto before now old last end p version of here =
    subst (λ k. IsAt version component k now.left now.rest.now) end (p.read version of here).here

-- ---- the table of a component

module _ (version : Versioned) (number : ℕ) (cells : List Cell) (is : IsWith version number cells) (size : ℕ) (long : size ≡ length cells) where
  pub with_size : IsOf version number size
  with_size = record { is = is.is; within = is.has.within; long = long ∙ ap length (sym is.has.are) }

pub table_counted : (number size runs : ℕ) (cells : List Cell) (rows : PartRows) → size ≡ length cells → CountsRuns number size rows runs → HasTable number cells rows (2 * size + 2 + runs)
table_counted number size runs cells rows long counts version next =
    let of = with_size version number cells next.0 size long in
    let comp = comp_at version.comps number in
    let is = counts version of next.1 in
    let all = table_size comp in
    let own = runs_size comp.rows in
    let same = of.long in
    omega arith

pub table_passed : (number size : ℕ) (cells : List Cell) (old new : PartRows) → size ≡ length cells → PassesRows number size old new → PassesTable number cells old new
table_passed number size cells old new long passes version next =
    let of = with_size version number cells next.0 size long in
    at_next version number size of new.left new.rest.now (passes version of next.1)

pub table_put : (number size at one two three end : ℕ) (cells : List Cell) (rows : PartRows) (old a b c new : List ℕ) → size ≡ length cells → PutsWords at one old a (size ∷ [])
    → PutsWords one two a b (map cell_word cells) → PutsBorders number size rows two b c three → PutsRuns number size rows three c new end
    → PutsTable number cells rows at old new end
unfolding table_of
table_put number size at one two three end cells rows old a b c new long head own borders runs version next =
    let of = with_size version number cells next.0 size long in
    let comp = comp_at version.comps number in
    let same : length comp.cells ≡ size = sym of.long in
    let first = subst (λ n. PutsWords at one old a (n ∷ [])) of.long head in
    let second = subst (λ cs. PutsWords one two a b (map cell_word cs)) (sym next.0.has.are) own in
    let third = subst (λ n. PutsWords two three b c (map (row_start comp.rows) (range_with_len 0 (n + 1)))) of.long (borders version of next.1) in
    let fourth = runs version of next.1 in
    words_then at one end old a new (length comp.cells ∷ []) (map cell_word comp.cells ++ (map (row_start comp.rows) (range_with_len 0 (length comp.cells + 1)) ++ flat_map row_words comp.rows)) first
    (words_then one two end a b new (map cell_word comp.cells) (map (row_start comp.rows) (range_with_len 0 (length comp.cells + 1)) ++ flat_map row_words comp.rows) second
    (words_then two three end b c new (map (row_start comp.rows) (range_with_len 0 (length comp.cells + 1))) (flat_map row_words comp.rows) third fourth))
