-- A text on its way through a buffer to a sink, piece by piece.
use Rattle.std.proofs.Common.{◌≡◌, ℕ, ◌+◌, ◌<◌, ◌≤◌, List, [], ◌∷◌, ◌++◌, length, get_or, take, drop, Option, Result, Ok, Err, OnErr, sym, ap, ◌∙◌, subst, append_assoc}
use Rattle.std.specs.Io.KnownBytes.{Appends}
use Rattle.std.specs.List.{flat_map}
use Rattle.std.proofs.lemmas.List.{append-nil, take-append-drop, take_all, take_more}
use Rattle.std.proofs.lemmas.List.Concat.{flat_map-append}
use Rattle.wire.specs.Contents.{PutsPrefix}
use Rattle.wire.proofs.Growing.{appends_none, appends_joined, prefix_of_more, prefix_on}
use Rattle.cell_order.specs.Orders.{kind_of}
use Rattle.path_file.specs.declared.head.Head.{Head}
use Rattle.moves.specs.Maps.{Map}
use Rattle.row_store.specs.Comps.{Comp}
use Rattle.versions.specs.Databases.{Versioned}
use Rattle.path_file.specs.Files.{comps_bytes, file_of, ground_bytes, head_bytes, head_of, mark, number_bytes, prefix_bytes, rows_of, sides_bytes, width_bytes}
use Rattle.path_file.specs.Puttings.{PutsSome, Writes, rows_of_comps}

pub writes_none : (told : Option (List ℕ)) (held : List ℕ) → Writes told told held held []
writes_none told held = record { out = []; put = appends_none told; split = append-nil held }

-- all that was held is put, and nothing more
pub writes_held : (before after : Option (List ℕ)) (held now : List ℕ) → Appends before after held → now ≡ [] → Writes before after held now []
writes_held before after held now put none = record { out = held; put = put; split = ap (λ l. held ++ l) (sym none) }

-- a text is held
pub writes_pushed : (before after : Option (List ℕ)) (held mid now text : List ℕ) → Writes before after held mid [] → now ≡ mid ++ text → Writes before after held now text
writes_pushed before after held mid now text p is = record {
  out = p.out;
  put = p.put;
  split = ap (λ l. l ++ text) (sym (append-nil held) ∙ p.split) ∙ append_assoc p.out mid text ∙ ap (λ l. p.out ++ l) (sym is);
}

module _ (t0 t1 t2 : Option (List ℕ)) (h0 h1 x : List ℕ) (p : Writes t0 t1 h0 h1 x) where
  -- one text and the next
  pub writes_both : (h2 y : List ℕ) → Writes t1 t2 h1 h2 y → Writes t0 t2 h0 h2 (x ++ y)
  writes_both h2 y q = record {
    out = p.out ++ q.out;
    put = appends_joined t0 t1 t2 p.out q.out p.put q.put;
    split = sym (append_assoc h0 x y) ∙ ap (λ l. l ++ y) p.split ∙ append_assoc p.out h1 y ∙ ap (λ l. p.out ++ l) q.split ∙ sym (append_assoc p.out q.out h2);
  }

  -- one text and a first part of the next
  pub some_later : (y : List ℕ) → PutsSome t1 t2 h1 y → PutsSome t0 t2 h0 (x ++ y)
  some_later y q =
      subst (PutsPrefix t0 t2) (sym (append_assoc p.out h1 y) ∙ ap (λ l. l ++ y) (sym p.split) ∙ append_assoc h0 x y) (prefix_on t0 t1 t2 p.out (h1 ++ y) p.put q)

-- a first part of a text is one of a longer text
pub some_more : (before after : Option (List ℕ)) (held x y : List ℕ) → PutsSome before after held x → PutsSome before after held (x ++ y)
some_more before after held x y p = subst (PutsPrefix before after) (append_assoc held x y) (prefix_of_more before after (held ++ x) y p)

-- ---- the bytes of a list, byte by byte

module _ (bytes : List ℕ) (t0 t1 t2 : Option (List ℕ)) (h0 h1 : List ℕ) (done : ℕ) (p : Writes t0 t1 h0 h1 (take done bytes)) where
  module _ (less : done < length bytes) where
    pub bytes_more : (h2 : List ℕ) (byte : ℕ) → byte ≡ get_or bytes done 0 → Writes t1 t2 h1 h2 (byte ∷ []) → Writes t0 t2 h0 h2 (take (done + 1) bytes)
    bytes_more h2 byte is q =
        subst (Writes t0 t2 h0 h2) (ap (λ b. take done bytes ++ b ∷ []) is ∙ sym (take_more bytes done 0 less)) (writes_both t0 t1 t2 h0 h1 (take done bytes) p h2 (byte ∷ []) q)

    pub bytes_refused : (byte : ℕ) → byte ≡ get_or bytes done 0 → PutsSome t1 t2 h1 (byte ∷ []) → PutsSome t0 t2 h0 bytes
    bytes_refused byte is q =
        let seam : (take done bytes ++ byte ∷ []) ++ drop (done + 1) bytes ≡ bytes =
        ap (λ b. (take done bytes ++ b ∷ []) ++ drop (done + 1) bytes) is ∙ ap (λ l. l ++ drop (done + 1) bytes) (sym (take_more bytes done 0 less)) ∙ take-append-drop (done + 1) bytes in
        subst (PutsSome t0 t2 h0) seam
        (some_more t0 t2 h0 (take done bytes ++ byte ∷ []) (drop (done + 1) bytes) (some_later t0 t1 t2 h0 h1 (take done bytes) p (byte ∷ []) q))

pub bytes_all : (bytes : List ℕ) (t0 t1 : Option (List ℕ)) (h0 h1 : List ℕ) (done : ℕ) → Writes t0 t1 h0 h1 (take done bytes) → length bytes ≤ done → Writes t0 t1 h0 h1 bytes
bytes_all bytes t0 t1 h0 h1 done p end = subst (Writes t0 t1 h0 h1) (take_all done bytes end) p

-- ---- a list, element by element

module _ {X : Type 0} (f : X → List ℕ) (xs : List X) (d : X) (t0 t1 t2 : Option (List ℕ)) (h0 h1 : List ℕ) (done : ℕ) (p : Writes t0 t1 h0 h1 (flat_map f (take done xs)))
    (less : done < length xs) where
  taken : flat_map f (take (done + 1) xs) ≡ flat_map f (take done xs) ++ f (get_or xs done d)
  taken = ap (flat_map f) (take_more xs done d less) ∙ flat_map-append f (take done xs) (get_or xs done d ∷ []) ∙ ap (λ l. flat_map f (take done xs) ++ l) (append-nil (f (get_or xs done d)))

  pub each_more : (h2 text : List ℕ) → text ≡ f (get_or xs done d) → Writes t1 t2 h1 h2 text → Writes t0 t2 h0 h2 (flat_map f (take (done + 1) xs))
  each_more h2 text is q =
      subst (Writes t0 t2 h0 h2) (ap (λ l. flat_map f (take done xs) ++ l) is ∙ sym taken) (writes_both t0 t1 t2 h0 h1 (flat_map f (take done xs)) p h2 text q)

  pub each_refused : (text : List ℕ) → text ≡ f (get_or xs done d) → PutsSome t1 t2 h1 text → PutsSome t0 t2 h0 (flat_map f xs)
  each_refused text is q =
      let seam : (flat_map f (take done xs) ++ text) ++ flat_map f (drop (done + 1) xs) ≡ flat_map f xs =
      ap (λ l. (flat_map f (take done xs) ++ l) ++ flat_map f (drop (done + 1) xs)) is ∙ ap (λ l. l ++ flat_map f (drop (done + 1) xs)) (sym taken)
      ∙ sym (flat_map-append f (take (done + 1) xs) (drop (done + 1) xs)) ∙ ap (flat_map f) (take-append-drop (done + 1) xs) in
      subst (PutsSome t0 t2 h0) seam
      (some_more t0 t2 h0 (flat_map f (take done xs) ++ text) (flat_map f (drop (done + 1) xs)) (some_later t0 t1 t2 h0 h1 (flat_map f (take done xs)) p text q))

pub each_all : {X : Type 0} (f : X → List ℕ) (xs : List X) (t0 t1 : Option (List ℕ)) (h0 h1 : List ℕ) (done : ℕ) → Writes t0 t1 h0 h1 (flat_map f (take done xs)) → length xs ≤ done
    → Writes t0 t1 h0 h1 (flat_map f xs)
each_all f xs t0 t1 h0 h1 done p end = subst (λ ys. Writes t0 t1 h0 h1 (flat_map f ys)) (take_all done xs end) p

-- ---- a result with an error, or without one

pub on_err : {T E : Type 0} (r : Result T E) (P : Type 0) → P → OnErr r P
on_err (Ok x) P p = tt
on_err (Err e) P p = p

-- ---- a whole text that begins with an empty buffer

pub begun : (t0 t1 : Option (List ℕ)) (h0 text : List ℕ) → h0 ≡ [] → PutsSome t0 t1 h0 text → PutsPrefix t0 t1 text
begun t0 t1 h0 text none p = subst (λ h. PutsPrefix t0 t1 (h ++ text)) none p

module _ (t0 t1 t2 : Option (List ℕ)) (h0 h1 text : List ℕ) (none : h0 ≡ []) (p : Writes t0 t1 h0 h1 text) where
  all_out : p.out ++ h1 ≡ text
  all_out = sym p.split ∙ ap (λ h. h ++ text) none

  pub finished : Appends t1 t2 h1 → Appends t0 t2 text
  finished q = subst (Appends t0 t2) all_out (appends_joined t0 t1 t2 p.out h1 p.put q)

  pub unfinished : PutsPrefix t1 t2 h1 → PutsPrefix t0 t2 text
  unfinished q = subst (PutsPrefix t0 t2) all_out (prefix_on t0 t1 t2 p.out h1 p.put q)

-- ---- the head

module _ (head : Head) (t0 t : Option (List ℕ)) (h0 : List ℕ) where
  pub some_prefix : PutsSome t0 t h0 (prefix_bytes head.width head.height head.prefix) → PutsSome t0 t h0 (head_bytes head)
  some_prefix p = some_more t0 t h0 (prefix_bytes head.width head.height head.prefix) (kind_of head.order ∷ []) p

  pub some_sides : PutsSome t0 t h0 (sides_bytes head.width head.height) → PutsSome t0 t h0 (head_bytes head)
  some_sides p = some_prefix (some_more t0 t h0 (sides_bytes head.width head.height) (number_bytes head.prefix) p)

  pub some_width : PutsSome t0 t h0 (width_bytes head.width) → PutsSome t0 t h0 (head_bytes head)
  some_width p = some_sides (some_more t0 t h0 (width_bytes head.width) (number_bytes head.height) p)

  pub some_mark : PutsSome t0 t h0 mark → PutsSome t0 t h0 (head_bytes head)
  some_mark p = some_width (some_more t0 t h0 mark (number_bytes head.width) p)

  -- a first part of the head is one of the file
  module _ (ground comps : List ℕ) where
    pub file_head : PutsSome t0 t h0 (head_bytes head) → PutsSome t0 t h0 ((head_bytes head ++ ground) ++ comps)
    file_head p = some_more t0 t h0 (head_bytes head ++ ground) comps (some_more t0 t h0 (head_bytes head) ground p)

-- ---- the file

module _ (v : Versioned) (head : Head) (m : Map) (comps : List Comp) (t0 t1 t2 t3 t : Option (List ℕ)) (h0 h1 h2 h3 : List ℕ) (head_is : head ≡ head_of v) (none : h0 ≡ []) where
  pub some_of_head : PutsSome t0 t h0 (head_bytes head) → PutsPrefix t0 t (file_of v)
  some_of_head p =
      begun t0 t h0 (file_of v) none
      (subst (λ hd. PutsSome t0 t h0 ((head_bytes hd ++ ground_bytes v.map.terrain) ++ comps_bytes (rows_of v))) head_is
      (file_head head t0 t h0 (ground_bytes v.map.terrain) (comps_bytes (rows_of v)) p))

  module _ (map_is : m ≡ v.map) (p : Writes t0 t1 h0 h1 (head_bytes head)) where
    front_is : head_bytes head ++ ground_bytes m.terrain ≡ head_bytes (head_of v) ++ ground_bytes v.map.terrain
    front_is = ap (λ hd. head_bytes hd ++ ground_bytes m.terrain) head_is ∙ ap (λ (n : Map). head_bytes (head_of v) ++ ground_bytes n.terrain) map_is

    pub some_of_ground : PutsSome t1 t h1 (ground_bytes m.terrain) → PutsPrefix t0 t (file_of v)
    some_of_ground q =
        begun t0 t h0 (file_of v) none
        (some_more t0 t h0 (head_bytes (head_of v) ++ ground_bytes v.map.terrain) (comps_bytes (rows_of v))
        (subst (PutsSome t0 t h0) front_is (some_later t0 t1 t h0 h1 (head_bytes head) p (ground_bytes m.terrain) q)))

    module _ (q : Writes t1 t2 h1 h2 (ground_bytes m.terrain)) (comps_are : comps ≡ v.comps) where
      front_put : Writes t0 t2 h0 h2 (head_bytes (head_of v) ++ ground_bytes v.map.terrain)
      front_put = subst (Writes t0 t2 h0 h2) front_is (writes_both t0 t1 t2 h0 h1 (head_bytes head) p h2 (ground_bytes m.terrain) q)

      pub some_of_comps : PutsSome t2 t h2 (comps_bytes (rows_of_comps comps)) → PutsPrefix t0 t (file_of v)
      some_of_comps r =
          begun t0 t h0 (file_of v) none
          (some_later t0 t2 t h0 h2 (head_bytes (head_of v) ++ ground_bytes v.map.terrain) front_put (comps_bytes (rows_of v))
          (subst (λ cs. PutsSome t2 t h2 (comps_bytes (rows_of_comps cs))) comps_are r))

      module _ (r : Writes t2 t3 h2 h3 (comps_bytes (rows_of_comps comps))) where
        file_put : Writes t0 t3 h0 h3 (file_of v)
        file_put =
            writes_both t0 t2 t3 h0 h2 (head_bytes (head_of v) ++ ground_bytes v.map.terrain) front_put h3 (comps_bytes (rows_of v))
            (subst (λ cs. Writes t2 t3 h2 h3 (comps_bytes (rows_of_comps cs))) comps_are r)

        pub file_finished : Appends t3 t h3 → Appends t0 t (file_of v)
        file_finished = finished t0 t3 t h0 h3 (file_of v) none file_put

        pub file_unfinished : PutsPrefix t3 t h3 → PutsPrefix t0 t (file_of v)
        file_unfinished = unfinished t0 t3 t h0 h3 (file_of v) none file_put
