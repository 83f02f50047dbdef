-- Words that are put one behind the other.
use Rattle.std.proofs.Common.{◌≡◌, ℕ, ◌+◌, ◌<◌, List, [], ◌∷◌, ◌++◌, length, map, get_or, take, drop, Option, Result, Ok, Err, OnOk, OnErr, refl, sym, ap, subst, ◌∙◌, append_assoc, append-nil, arith}
use Rattle.std.specs.List.{flat_map, range_with_len}
use Rattle.std.specs.Io.KnownBytes.{Appends}
use Rattle.std.proofs.lemmas.List.{take_more, map_more, take-append-drop, take-map, get_or-map, length-map}
use Rattle.std.proofs.lemmas.List.Concat.{flat_map-append}
use Rattle.std.proofs.lemmas.List.FromFn.{map-range_with_len_more, take-map-range_with_len, get_or-map-range_with_len, length-map-range_with_len}
use Rattle.wire.specs.Contents.{PutsPrefix}
use Rattle.wire.proofs.Growing.{appends_none, appends_joined, prefix_of_more, prefix_on}
use Rattle.row_store.specs.Comps.{Comp}
use Rattle.versions.specs.Databases.{Versioned}
use Rattle.path_image.specs.Images.{image_of, head_of, homes_of, starts_of, table_of, cell_word, row_words}
use Rattle.path_image.specs.Writing.{Puts, PutsSome, borders_of, bytes_of, word_bytes}

pub puts_none : (told : Option (List ℕ)) (held : List ℕ) → Puts told held told held []
puts_none told held = record { out = []; put = appends_none told; split = append-nil held }

-- bytes behind some words are those of the words with more
joined : (x ws vs : List ℕ) → (x ++ bytes_of ws) ++ bytes_of vs ≡ x ++ bytes_of (ws ++ vs)
joined x ws vs = append_assoc x (bytes_of ws) (bytes_of vs) ∙ ap (λ l. x ++ l) (sym (flat_map-append word_bytes ws vs))

-- some words and the next
pub puts_both : (a b c : Option (List ℕ)) (x y z ws vs : List ℕ) → Puts a x b y ws → Puts b y c z vs → Puts a x c z (ws ++ vs)
puts_both a b c x y z ws vs p q = record {
  out = p.out ++ q.out;
  put = appends_joined a b c p.out q.out p.put q.put;
  split = sym (joined x ws vs) ∙ ap (λ l. l ++ bytes_of vs) p.split ∙ append_assoc p.out y (bytes_of vs) ∙ ap (λ l. p.out ++ l) q.split ∙ sym (append_assoc p.out q.out z);
}

-- some words and a first part of the next
pub some_later : (a b c : Option (List ℕ)) (x y ws vs : List ℕ) → Puts a x b y ws → PutsSome b y c vs → PutsSome a x c (ws ++ vs)
some_later a b c x y ws vs p q =
    subst (PutsPrefix a c) (sym (append_assoc p.out y (bytes_of vs)) ∙ ap (λ l. l ++ bytes_of vs) (sym p.split) ∙ joined x ws vs)
    (prefix_on a b c p.out (y ++ bytes_of vs) p.put q)

-- a first part of some words is one of more words
pub some_more : (a b : Option (List ℕ)) (x ws vs : List ℕ) → PutsSome a x b ws → PutsSome a x b (ws ++ vs)
some_more a b x ws vs p = subst (PutsPrefix a b) (joined x ws vs) (prefix_of_more a b (x ++ bytes_of ws) (bytes_of vs) p)

-- a first part of what was held is one of that and words more
pub some_held : (a b : Option (List ℕ)) (x ws : List ℕ) → PutsPrefix a b x → PutsSome a x b ws
some_held a b x ws p = prefix_of_more a b x (bytes_of ws) p

-- some words, and a first part of those behind them, are a first part of all
some_among : (a b c : Option (List ℕ)) (x y ws vs us all : List ℕ) → (ws ++ vs) ++ us ≡ all → Puts a x b y ws → PutsSome b y c vs → PutsSome a x c all
some_among a b c x y ws vs us all seam p q = subst (PutsSome a x c) seam (some_more a c x (ws ++ vs) us (some_later a b c x y ws vs p q))

-- one more of the words that a function gives
pub puts_next : (f : ℕ → ℕ) (k : ℕ) (a b c : Option (List ℕ)) (x y z : List ℕ) → Puts a x b y (map f (range_with_len 0 k)) → Puts b y c z (f k ∷ [])
    → Puts a x c z (map f (range_with_len 0 (k + 1)))
puts_next f k a b c x y z p q =
    subst (Puts a x c z) (sym (map-range_with_len_more f 0 k k (omega arith))) (puts_both a b c x y z (map f (range_with_len 0 k)) (f k ∷ []) p q)

-- the words of one more of some things
pieces : {X : Type 0} (f : X → List ℕ) (xs : List X) (k : ℕ) (d : X) → k < length xs → flat_map f (take (k + 1) xs) ≡ flat_map f (take k xs) ++ f (get_or xs k d)
pieces f xs k d inside =
    ap (flat_map f) (take_more xs k d inside) ∙ flat_map-append f (take k xs) (get_or xs k d ∷ []) ∙ ap (λ ws. flat_map f (take k xs) ++ ws) (append-nil (f (get_or xs k d)))

pub puts_piece : {X : Type 0} (f : X → List ℕ) (xs : List X) (k : ℕ) (d : X) → k < length xs → (a b c : Option (List ℕ)) (x y z : List ℕ)
    → Puts a x b y (flat_map f (take k xs)) → Puts b y c z (f (get_or xs k d)) → Puts a x c z (flat_map f (take (k + 1) xs))
puts_piece f xs k d inside a b c x y z p q =
    subst (Puts a x c z) (sym (pieces f xs k d inside)) (puts_both a b c x y z (flat_map f (take k xs)) (f (get_or xs k d)) p q)

-- the word of one more of some things
pub puts_item : {X : Type 0} (f : X → ℕ) (xs : List X) (k : ℕ) (d : X) → k < length xs → (a b c : Option (List ℕ)) (x y z : List ℕ)
    → Puts a x b y (map f (take k xs)) → Puts b y c z (f (get_or xs k d) ∷ []) → Puts a x c z (map f (take (k + 1) xs))
puts_item f xs k d inside a b c x y z p q =
    subst (Puts a x c z) (sym (map_more f xs k d inside)) (puts_both a b c x y z (map f (take k xs)) (f (get_or xs k d) ∷ []) p q)

-- all that was held is put, and nothing more
pub puts_sent : (a b : Option (List ℕ)) (held now : List ℕ) → Appends a b held → now ≡ [] → Puts a held b now []
puts_sent a b held now p none = record { out = held; put = p; split = ap (λ l. held ++ l) (sym none) }

-- bytes are held behind those that are held
pub puts_held : (a : Option (List ℕ)) (x y bytes words : List ℕ) → y ≡ x ++ bytes → bytes ≡ bytes_of words → Puts a x a y words
puts_held a x y bytes words p same = record { out = []; put = appends_none a; split = ap (λ l. x ++ l) (sym same) ∙ sym p }

-- one more of some words
pub puts_taken : (words : List ℕ) (k word : ℕ) → k < length words → word ≡ get_or words k 0 → (a b c : Option (List ℕ)) (x y z : List ℕ)
    → Puts a x b y (take k words) → Puts b y c z (word ∷ []) → Puts a x c z (take (k + 1) words)
puts_taken words k word inside is a b c x y z p q =
    subst (Puts a x c z) (sym (take_more words k 0 inside))
    (puts_both a b c x y z (take k words) (get_or words k 0 ∷ []) p (subst (λ w. Puts b y c z (w ∷ [])) is q))

-- ---- a first part of words that are put one by one

pub some_taken : (words : List ℕ) (k word : ℕ) → k < length words → word ≡ get_or words k 0 → (a b c : Option (List ℕ)) (x y : List ℕ)
    → Puts a x b y (take k words) → PutsSome b y c (word ∷ []) → PutsSome a x c words
some_taken words k word inside is a b c x y p q =
    some_among a b c x y (take k words) (word ∷ []) (drop (k + 1) words) words
    (ap (λ w. (take k words ++ w ∷ []) ++ drop (k + 1) words) is ∙ ap (λ l. l ++ drop (k + 1) words) (sym (take_more words k 0 inside)) ∙ take-append-drop (k + 1) words) p q

-- of the words that a function gives
pub some_next : (f : ℕ → ℕ) (k n word : ℕ) → k < n → word ≡ f k → (a b c : Option (List ℕ)) (x y : List ℕ) → Puts a x b y (map f (range_with_len 0 k)) → PutsSome b y c (word ∷ [])
    → PutsSome a x c (map f (range_with_len 0 n))
some_next f k n word inside is a b c x y p q =
    some_taken (map f (range_with_len 0 n)) k word (omega (arith, length-map-range_with_len f 0 n)) (is ∙ sym (get_or-map-range_with_len f 0 n k k 0 inside (omega arith))) a b c x y
    (subst (Puts a x b y) (sym (take-map-range_with_len f 0 n k (omega arith))) p) q

-- of the words of some things, one each
pub some_item : {X : Type 0} (f : X → ℕ) (xs : List X) (k word : ℕ) (d : X) → k < length xs → word ≡ f (get_or xs k d) → (a b c : Option (List ℕ)) (x y : List ℕ)
    → Puts a x b y (map f (take k xs)) → PutsSome b y c (word ∷ []) → PutsSome a x c (map f xs)
some_item f xs k word d inside is a b c x y p q =
    some_taken (map f xs) k word (omega (arith, length-map xs f)) (is ∙ sym (get_or-map f xs k d 0 inside)) a b c x y (subst (Puts a x b y) (sym (take-map f k xs)) p) q

-- of the words of some things
pub some_piece : {X : Type 0} (f : X → List ℕ) (xs : List X) (k : ℕ) (d : X) → k < length xs → (a b c : Option (List ℕ)) (x y : List ℕ)
    → Puts a x b y (flat_map f (take k xs)) → PutsSome b y c (f (get_or xs k d)) → PutsSome a x c (flat_map f xs)
some_piece f xs k d inside a b c x y p q =
    some_among a b c x y (flat_map f (take k xs)) (f (get_or xs k d)) (flat_map f (drop (k + 1) xs)) (flat_map f xs)
    (ap (λ l. l ++ flat_map f (drop (k + 1) xs)) (sym (pieces f xs k d inside)) ∙ sym (flat_map-append f (take (k + 1) xs) (drop (k + 1) xs))
    ∙ ap (flat_map f) (take-append-drop (k + 1) xs)) p q

pub on_ok_then : {X E : Type 0} (result : Result X E) (A B : Type 0) → (A → B) → OnOk result A → OnOk result B
on_ok_then (Ok x) A B then h = then h
on_ok_then (Err e) A B then h = tt

pub on_err : {X E : Type 0} (result : Result X E) (A : Type 0) → A → OnErr result A
on_err (Ok x) A h = tt
on_err (Err e) A h = h

pub on_err_then : {X E : Type 0} (result : Result X E) (A B : Type 0) → (A → B) → OnErr result A → OnErr result B
on_err_then (Ok x) A B then h = tt
on_err_then (Err e) A B then h = then h

-- ---- four lists of words, one behind the other

module _ (first second third fourth : List ℕ) (a : Option (List ℕ)) (x : List ℕ) (t : Option (List ℕ)) where
  pub in_first : PutsSome a x t first → PutsSome a x t (first ++ (second ++ (third ++ fourth)))
  in_first q = some_more a t x first (second ++ (third ++ fourth)) q

  module _ (b : Option (List ℕ)) (y : List ℕ) (p : Puts a x b y first) where
    pub in_second : PutsSome b y t second → PutsSome a x t (first ++ (second ++ (third ++ fourth)))
    in_second q = some_later a b t x y first (second ++ (third ++ fourth)) p (some_more b t y second (third ++ fourth) q)

    module _ (c : Option (List ℕ)) (z : List ℕ) (q : Puts b y c z second) where
      pub in_third : PutsSome c z t third → PutsSome a x t (first ++ (second ++ (third ++ fourth)))
      in_third r = some_later a b t x y first (second ++ (third ++ fourth)) p (some_later b c t y z second (third ++ fourth) q (some_more c t z third fourth r))

      module _ (d : Option (List ℕ)) (u : List ℕ) (r : Puts c z d u third) where
        pub in_fourth : PutsSome d u t fourth → PutsSome a x t (first ++ (second ++ (third ++ fourth)))
        in_fourth s =
            some_later a b t x y first (second ++ (third ++ fourth)) p
            (some_later b c t y z second (third ++ fourth) q (some_later c d t z u third fourth r s))

        pub puts_four : (v : List ℕ) → Puts d u t v fourth → Puts a x t v (first ++ (second ++ (third ++ fourth)))
        puts_four v s =
            puts_both a b t x y v first (second ++ (third ++ fourth)) p
            (puts_both b c t y z v second (third ++ fourth) q (puts_both c d t z u v third fourth r s))

-- ---- the table of a component

-- its parts, behind the number that is put first
abbrev pub table_with : Comp → ℕ → List ℕ
table_with comp size = (size ∷ []) ++ (map cell_word comp.cells ++ (borders_of comp ++ flat_map row_words comp.rows))

table_is : (comp : Comp) (size : ℕ) → size ≡ length comp.cells → table_with comp size ≡ table_of comp
unfolding table_of
table_is comp size is = ap (table_with comp) is

pub table_put : (comp : Comp) (size : ℕ) → size ≡ length comp.cells → (a b : Option (List ℕ)) (x y : List ℕ) → Puts a x b y (table_with comp size) → Puts a x b y (table_of comp)
table_put comp size is a b x y p = subst (Puts a x b y) (table_is comp size is) p

-- a first part of it
pub table_some : (comp : Comp) (size : ℕ) → size ≡ length comp.cells → (a b : Option (List ℕ)) (x : List ℕ) → PutsSome a x b (table_with comp size) → PutsSome a x b (table_of comp)
table_some comp size is a b x p = subst (PutsSome a x b) (table_is comp size is) p

-- ---- the image

-- its parts
abbrev pub image_parts : Versioned → List ℕ
image_parts version = head_of version ++ (homes_of version ++ (starts_of version ++ flat_map table_of version.comps))

parts_are : (version : Versioned) → image_parts version ≡ image_of version
unfolding image_of
parts_are version = refl

module _ (version : Versioned) (a t : Option (List ℕ)) (x : List ℕ) (none : x ≡ []) where
  image_bytes : x ++ bytes_of (image_parts version) ≡ bytes_of (image_of version)
  image_bytes = ap (λ held. held ++ bytes_of (image_parts version)) none ∙ ap bytes_of (parts_are version)

  -- a first part of it
  pub image_some : PutsSome a x t (image_parts version) → PutsPrefix a t (bytes_of (image_of version))
  image_some p = subst (PutsPrefix a t) image_bytes p

  module _ (b : Option (List ℕ)) (y : List ℕ) (p : Puts a x b y (image_parts version)) where
    out_is : p.out ++ y ≡ bytes_of (image_of version)
    out_is = sym p.split ∙ image_bytes

    -- what is held then is put as a whole, or a first part of it
    pub image_put : Appends b t y → Appends a t (bytes_of (image_of version))
    image_put q = subst (Appends a t) out_is (appends_joined a b t p.out y p.put q)

    pub image_unfinished : PutsPrefix b t y → PutsPrefix a t (bytes_of (image_of version))
    image_unfinished q = subst (PutsPrefix a t) out_is (prefix_on a b t p.out y p.put q)
