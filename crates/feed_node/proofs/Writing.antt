-- A text on its way through a parcel to a link, piece by piece.
use Rattle.std.proofs.Common.{◌≡◌, ℕ, ◌+◌, ◌<◌, ◌≤◌, List, [], ◌∷◌, ◌++◌, length, get_or, map, take, drop, Option, Result, Ok, Err, OnErr, refl, sym, subst, ap, ◌∙◌}
use Rattle.std.specs.List.{flat_map}
use Rattle.std.proofs.lemmas.List.{append-nil, append_assoc, take-append-drop, take_all, take_more}
use Rattle.std.proofs.lemmas.List.Concat.{flat_map-append}
use Rattle.moves.specs.declared.Terrain.{Terrain}
use Rattle.query_proto.specs.Frames.{terrain_byte}
use Rattle.wire.specs.Talks.{SendsPrefix, Talk, with_sent}
use Rattle.wire.proofs.Sending.{sent_none}
use Rattle.feed_node.specs.Sending.{SendsSome, Writes}
use Rattle.feed_node.proofs.Passing.{prefix_behind, prefix_longer, sent_both}

pub writes_none : (told : Option Talk) (held : List ℕ) → Writes told told held held []
writes_none told held = record { out = []; sent = sent_none told; split = append-nil held }

-- all that was held is sent, and nothing more
pub writes_held : (before after : Option Talk) (held now : List ℕ) → after ≡ with_sent before held → now ≡ [] → Writes before after held now []
writes_held before after held now e none = record { out = held; sent = e; split = ap (λ l. held ++ l) (sym none) }

-- a text is held
pub writes_pushed : (before after : Option Talk) (held mid now text : List ℕ) → Writes before after held mid [] → now ≡ mid ++ text
    → Writes before after held now text
writes_pushed before after held mid now text p is = record {
  out = p.out;
  sent = p.sent;
  split = ap (λ l. l ++ text) (sym (append-nil held) ∙ p.split) ∙ append_assoc p.out mid text ∙ ap (λ l. p.out ++ l) (sym is);
}

module _ (t0 t1 t2 : Option Talk) (h0 h1 x : List ℕ) (p : Writes t0 t1 h0 h1 x) where
  -- one text and the next
  pub writes_both : (h2 y : List ℕ) → Writes t1 t2 h1 h2 y → Writes t0 t2 h0 h2 (x ++ y)
  writes_both h2 y q = record {
    out = p.out ++ q.out;
    sent = q.sent ∙ ap (λ t. with_sent t q.out) p.sent ∙ sent_both t0 p.out q.out;
    split = sym (append_assoc h0 x y) ∙ ap (λ l. l ++ y) p.split ∙ append_assoc p.out h1 y ∙ ap (λ l. p.out ++ l) q.split
        ∙ sym (append_assoc p.out q.out h2);
  }

  -- one text and a first part of the next
  pub some_later : (y : List ℕ) → SendsSome t1 t2 h1 y → SendsSome t0 t2 h0 (x ++ y)
  some_later y q =
      subst (SendsPrefix t0 t2) (sym (append_assoc p.out h1 y) ∙ ap (λ l. l ++ y) (sym p.split) ∙ append_assoc h0 x y)
      (prefix_behind t0 t1 t2 p.out (h1 ++ y) p.sent q)

  -- nothing was held, and what is held then is sent
  pub written : h0 ≡ [] → t2 ≡ with_sent t1 h1 → t2 ≡ with_sent t0 x
  written none e =
      e ∙ ap (λ t. with_sent t h1) p.sent ∙ sent_both t0 p.out h1 ∙ ap (with_sent t0) (sym p.split ∙ ap (λ h. h ++ x) none)

  -- less than what is held then
  pub unwritten : h0 ≡ [] → SendsPrefix t1 t2 h1 → SendsPrefix t0 t2 x
  unwritten none q =
      subst (SendsPrefix t0 t2) (sym p.split ∙ ap (λ h. h ++ x) none) (prefix_behind t0 t1 t2 p.out h1 p.sent q)

-- a first part of a text is one of a longer text
pub some_more : (before after : Option Talk) (held x y : List ℕ) → SendsSome before after held x → SendsSome before after held (x ++ y)
some_more before after held x y p =
    subst (SendsPrefix before after) (append_assoc held x y) (prefix_longer before after (held ++ x) y p)

pub some_alone : (before after : Option Talk) (held x : List ℕ) → held ≡ [] → SendsSome before after held x → SendsPrefix before after x
some_alone before after held x none p = subst (λ h. SendsPrefix before after (h ++ x)) none p

-- ---- a list, element by element

module _ {X : Type 0} (f : X → List ℕ) (xs : List X) (d : X) (t0 t1 t2 : Option Talk) (h0 h1 : List ℕ) (done : ℕ)
    (p : Writes t0 t1 h0 h1 (flat_map f (take done xs))) (less : done < length xs) where
  one_more : flat_map f (take (done + 1) xs) ≡ flat_map f (take done xs) ++ f (get_or xs done d)
  one_more = ap (flat_map f) (take_more xs done d less) ∙ flat_map-append f (take done xs) (get_or xs done d ∷ [])
      ∙ ap (λ l. flat_map f (take done xs) ++ l) (append-nil (f (get_or xs done d)))

  pub each_more : (h2 text : List ℕ) → text ≡ f (get_or xs done d) → Writes t1 t2 h1 h2 text → Writes t0 t2 h0 h2 (flat_map f (take (done + 1) xs))
  each_more h2 text is q =
      subst (Writes t0 t2 h0 h2) (ap (λ l. flat_map f (take done xs) ++ l) is ∙ sym one_more)
      (writes_both t0 t1 t2 h0 h1 (flat_map f (take done xs)) p h2 text q)

  pub each_refused : (text : List ℕ) → text ≡ f (get_or xs done d) → SendsSome t1 t2 h1 text → SendsSome t0 t2 h0 (flat_map f xs)
  each_refused text is q =
      let seam : (flat_map f (take done xs) ++ text) ++ flat_map f (drop (done + 1) xs) ≡ flat_map f xs =
      ap (λ l. (flat_map f (take done xs) ++ l) ++ flat_map f (drop (done + 1) xs)) is
      ∙ ap (λ l. l ++ flat_map f (drop (done + 1) xs)) (sym one_more)
      ∙ sym (flat_map-append f (take (done + 1) xs) (drop (done + 1) xs)) ∙ ap (flat_map f) (take-append-drop (done + 1) xs) in
      subst (SendsSome t0 t2 h0) seam
      (some_more t0 t2 h0 (flat_map f (take done xs) ++ text) (flat_map f (drop (done + 1) xs))
      (some_later t0 t1 t2 h0 h1 (flat_map f (take done xs)) p text q))

pub each_all : {X : Type 0} (f : X → List ℕ) (xs : List X) (t0 t1 : Option Talk) (h0 h1 : List ℕ) (done : ℕ)
    → Writes t0 t1 h0 h1 (flat_map f (take done xs)) → length xs ≤ done → Writes t0 t1 h0 h1 (flat_map f xs)
each_all f xs t0 t1 h0 h1 done p end = subst (λ ys. Writes t0 t1 h0 h1 (flat_map f ys)) (take_all done xs end) p

-- ---- the bytes of a map's cells

abbrev pub one_byte : Terrain → List ℕ
one_byte terrain = terrain_byte terrain ∷ []

pub bytes_of_cells : (cells : List Terrain) → flat_map one_byte cells ≡ map terrain_byte cells
bytes_of_cells [] = refl
bytes_of_cells (cell ∷ cells) = ap (λ l. terrain_byte cell ∷ l) (bytes_of_cells cells)

-- ---- a text of two parts, where nothing was held before, and its last bytes

module _ (t0 : Option Talk) (h0 x y text : List ℕ) (none : h0 ≡ []) (same : x ++ y ≡ text) where
  pub first_fails : (t1 : Option Talk) → SendsSome t0 t1 h0 x → SendsPrefix t0 t1 text
  first_fails t1 q = subst (SendsPrefix t0 t1) same (prefix_longer t0 t1 x y (some_alone t0 t1 h0 x none q))

  module _ (t1 : Option Talk) (h1 : List ℕ) (p : Writes t0 t1 h0 h1 x) where
    pub second_fails : (t2 : Option Talk) → SendsSome t1 t2 h1 y → SendsPrefix t0 t2 text
    second_fails t2 q = subst (SendsPrefix t0 t2) same (some_alone t0 t2 h0 (x ++ y) none (some_later t0 t1 t2 h0 h1 x p y q))

    module _ (t2 : Option Talk) (h2 : List ℕ) (q : Writes t1 t2 h1 h2 y) (t3 : Option Talk) where
      pub all_out : t3 ≡ with_sent t2 h2 → t3 ≡ with_sent t0 text
      all_out e = subst (λ l. t3 ≡ with_sent t0 l) same (written t0 t2 t3 h0 h2 (x ++ y) (writes_both t0 t1 t2 h0 h1 x p h2 y q) none e)

      pub last_fails : SendsPrefix t2 t3 h2 → SendsPrefix t0 t3 text
      last_fails e = subst (SendsPrefix t0 t3) same (unwritten t0 t2 t3 h0 h2 (x ++ y) (writes_both t0 t1 t2 h0 h1 x p h2 y q) none e)

-- ---- a result with an error

pub on_err : {T E : Type 0} (r : Result T E) (P : Type 0) → P → OnErr r P
on_err (Ok x) P p = tt
on_err (Err e) P p = p
