-- Following cursors to a target: it leads there in one way, over fewer places than there are, and keys are found on the way.
use Rattle.std.proofs.Common.{◌≡◌, ◌≢◌, ℕ, zero, suc, ◌+◌, ◌-◌, ◌*◌, ◌<◌, ◌≤◌, ◌⊎◌, List, ◌∷◌, length, get_or, slice_index, set, Contains, inl, inr, refl, sym, ap, subst, ◌∙◌, arith}
use Rattle.std.specs.List.{remove, range_with_len}
use Rattle.std.proofs.lemmas.Bool.{cases_eq}
use Rattle.std.proofs.lemmas.List.{get_or-set_same, get_or-set_other, length-set}
use Rattle.std.proofs.lemmas.List.Edits.{length-remove}
use Rattle.std.proofs.lemmas.List.FromFn.{get_or-range_with_len, length-range_with_len}
use Rattle.std.proofs.lemmas.List.Sorted.{IsPermutation-remove, Contains-permutation}
use Rattle.moves.proofs.RowMajor.{contains_cases}
use Rattle.row_check.specs.declared.cursors.Cursor.{Cursor}
use Rattle.row_check.specs.Following.{cursor_of, Arrives, IsKeyOf, CanFollow, AreKeys, AreKeysWith, AreAllKeys, IsLost, IsFirstLost}

-- ---- one way, and few moves

pub arrives_once : (cursors : List Cursor) (target from j k x y : ℕ) → Arrives cursors target from j x → Arrives cursors target from k y → (j ≡ k) × (x ≡ y)
arrives_once cursors target from zero zero x y p q = (refl, p.1 ∙ sym q.1)
arrives_once cursors target from zero (suc k) x y p q = absurd (q.0 p.0)
arrives_once cursors target from (suc j) zero x y p q = absurd (p.0 q.0)
arrives_once cursors target from (suc j) (suc k) x y p q =
    let later = arrives_once cursors target (cursor_of cursors from).next j k p.2 q.2 p.4 q.4 in
    (ap suc later.0, p.3 ∙ ap (λ r. r + (cursor_of cursors from).step) later.1 ∙ sym q.3)

pub one_key : (cursors : List Cursor) (target from x y : ℕ) → IsKeyOf cursors target from x → IsKeyOf cursors target from y → x ≡ y
one_key cursors target from x y p q = (arrives_once cursors target from p.count q.count x y p.arrives q.arrives).1

-- a list has what stands in it elsewhere than at a place, without that place
contains_without : (xs : List ℕ) (n : ℕ) (x y : ℕ) → n < length xs → get_or xs n x ≡ x → x ≢ y → Contains xs y → Contains (remove xs n) y
contains_without xs n x y less at apart h =
    let p = IsPermutation-remove xs n x less (sym at) in
    elim (contains_cases x (remove xs n) y (Contains-permutation xs (x ∷ remove xs n) y p h)) [
      | inl same ↦ absurd (apart same)
      | inr rest ↦ rest
    ]

pub record IsFollowed (cursors : List Cursor) (target : ℕ) (from turn at total : ℕ) : Type 0 where
  pub inside : at < length cursors
  pub bound : total ≤ 47321 * turn
  pub forth : (key : ℕ) → IsKeyOf cursors target at key → IsKeyOf cursors target from (total + key)
  pub back : (count key : ℕ) → Arrives cursors target from count key → (rest : ℕ) × (left : ℕ) × Arrives cursors target at rest left × (count ≡ turn + rest)

pub record IsSettling (cursors : List Cursor) (target : ℕ) (before keys : List ℕ) (from at rest : ℕ) : Type 0 where
  pub keyed : AreKeys cursors target keys
  pub inside : at < length cursors
  pub way : IsKeyOf cursors target at rest
  pub kept : (place : ℕ) → slice_index before place ≢ 4294967295 → slice_index keys place ≡ slice_index before place
  pub reached : (slice_index keys from ≢ 4294967295) ⊎ (from ≡ at)

pub record AreFound (cursors : List Cursor) (target : ℕ) (keys : List ℕ) (upto : ℕ) : Type 0 where
  pub keyed : AreKeys cursors target keys
  pub found : (place : ℕ) → place < upto → slice_index keys place ≢ 4294967295

module _ (cursors : List Cursor) (target : ℕ) (follow : CanFollow cursors target) where
  -- no place is met twice: where all places from which the way is no longer are in a list, the way is shorter than the list
  fewer : (from count key : ℕ) (xs : List ℕ) → from < length cursors → Arrives cursors target from count key
      → ((place others y : ℕ) → place < length cursors → Arrives cursors target place others y → others ≤ count → Contains xs place)
      → count < length xs
  fewer from zero key xs l p inside = let h = inside from 0 key l p (omega arith) in let m = h.1 in omega arith
  fewer from (suc count) key xs l p inside =
      let h = inside from (suc count) key l p (omega arith) in
      let shorter = fewer (cursor_of cursors from).next count p.2 (remove xs h.0) p.1 p.4
      (λ place others y m its less.
      contains_without xs h.0 from place h.1 h.2
      (λ same. let long = (arrives_once cursors target from (suc count) others key y p (subst (λ q. Arrives cursors target q others y) (sym same) its)).0 in
      absurd (omega arith))
      (inside place others y m its (omega arith))) in
      let size = length-remove xs h.0 h.1 in
      omega arith

  pub few_moves : (from count key : ℕ) → from < length cursors → Arrives cursors target from count key → count < length cursors
  few_moves from count key l p =
      let size = length-range_with_len 0 (length cursors) in
      let all = fewer from count key (range_with_len 0 (length cursors)) l p
      (λ place others y m its less. (place, omega arith, get_or-range_with_len 0 (length cursors) place place m ∙ (let e : 0 + place ≡ place = omega arith in e))) in
      omega arith

  -- a key is at most so many diagonal steps
  small : (from count key : ℕ) → from < length cursors → Arrives cursors target from count key → key ≤ 47321 * count + 1
  small from zero key l p = (let e = p.1 in omega arith)
  small from (suc count) key l p =
      let rest = small (cursor_of cursors from).next count p.2 p.1 p.4 in
      let e = p.3 in
      let step = follow.most from l in
      omega arith

  pub key_most : (from key : ℕ) → from < length cursors → IsKeyOf cursors target from key → key ≤ 47321 * 32767 + 1
  key_most from key l p =
      let few = few_moves from p.count key l p.arrives in
      let low = small from p.count key l p.arrives in
      let all = follow.few in
      omega arith

  -- no key is 0
  positive : (from count key : ℕ) → Arrives cursors target from count key → 0 < key
  positive from zero key p = (let e = p.1 in omega arith)
  positive from (suc count) key p = (let rest = positive (cursor_of cursors from).next count p.2 p.4 in let e = p.3 in omega arith)

  pub key_some : (from key : ℕ) → IsKeyOf cursors target from key → 0 < key
  key_some from key p = positive from p.count key p.arrives

  -- ---- following

  pub followed_none : (from : ℕ) → from < length cursors → IsFollowed cursors target from 0 from 0
  followed_none from l = record {
    inside = l;
    bound = omega arith;
    forth = λ key k. subst (IsKeyOf cursors target from) (omega arith) k;
    back = λ count key p. (count, key, p, omega arith);
  }

  module _ (from turn at total : ℕ) (p : IsFollowed cursors target from turn at total) (apart : at ≢ target) where
    next : ℕ
    next = (cursor_of cursors at).next

    onward : (rest left : ℕ) (count : ℕ) → Arrives cursors target at rest left → count ≡ turn + rest
        → ((cursor_of cursors at).next < length cursors) × ((less : ℕ) × (key : ℕ) × Arrives cursors target (cursor_of cursors at).next less key × (count ≡ turn + 1 + less))
    onward zero left count a e = absurd (apart a.0)
    onward (suc rest) left count a e = (a.1, (rest, a.2, a.4, omega arith))

    pub followed_more : (cursor_of cursors at).next < length cursors → IsFollowed cursors target from (turn + 1) (cursor_of cursors at).next (total + (cursor_of cursors at).step)
    followed_more l = record {
      inside = l;
      bound = let b = p.bound in let s = follow.most at p.inside in omega arith;
      forth = λ key k.
          let whole = p.forth (key + (cursor_of cursors at).step) (record { count = suc k.count; arrives = (apart, l, key, refl, k.arrives) }) in
          subst (IsKeyOf cursors target from) (omega arith) whole;
      back = λ count key a. let b = p.back count key a in (onward b.0 b.1 count b.2 b.3).1;
    }

    -- where it leads nowhere, nothing leads to the target
    pub lost_nowhere : length cursors ≤ (cursor_of cursors at).next → IsLost cursors target from
    lost_nowhere out key k = let b = p.back k.count key k.arrives in let l = (onward b.0 b.1 k.count b.2 b.3).0 in omega arith

  -- nor where there were as many moves as places
  pub lost_at_end : (from turn at total : ℕ) → from < length cursors → IsFollowed cursors target from turn at total → length cursors ≤ turn → IsLost cursors target from
  lost_at_end from turn at total l p end key k =
      let b = p.back k.count key k.arrives in
      let few = few_moves from k.count key l k.arrives in
      let e = b.3 in
      omega arith

  -- ---- keys

  -- a key that is known is that of its place
  pub known_key : (keys : List ℕ) (place : ℕ) → AreKeys cursors target keys → place < length cursors → slice_index keys place ≢ 4294967295 → IsKeyOf cursors target place (slice_index keys place)
  known_key keys place p l some = elim (p.known place l) [ inl none ↦ absurd (some none) | inr key ↦ key ]

  -- where the key is not known, the place is not the target
  pub not_target : (keys : List ℕ) (place : ℕ) → AreKeys cursors target keys → slice_index keys place ≡ 4294967295 → place ≢ target
  not_target keys place p none same = let e : slice_index keys target ≡ 4294967295 = subst (λ k. slice_index keys k ≡ 4294967295) same none in let s = p.start in absurd (omega arith)

  -- ---- noting keys

  pub settling_start : (keys : List ℕ) (from key : ℕ) → AreKeys cursors target keys → from < length cursors → IsKeyOf cursors target from key → IsSettling cursors target keys keys from from key
  settling_start keys from key p l way = record { keyed = p; inside = l; way = way; kept = λ place some. refl; reached = inr refl }

  pub settled : (before keys : List ℕ) (from at rest : ℕ) → IsSettling cursors target before keys from at rest → slice_index keys at ≢ 4294967295 → AreKeysWith cursors target from before keys
  settled before keys from at rest p some = record {
    keys = p.keyed;
    known = elim p.reached [ inl k ↦ k | inr same ↦ subst (λ q. slice_index keys q ≢ 4294967295) (sym same) some ];
    kept = p.kept;
  }

  module _ (before keys : List ℕ) (from at rest : ℕ) (p : IsSettling cursors target before keys from at rest) (none : slice_index keys at ≡ 4294967295) where
    away : at ≢ target
    away = not_target keys at p.keyed none

    split : (count key : ℕ) → Arrives cursors target at count key
        → ((cursor_of cursors at).next < length cursors) × ((left : ℕ) × (key ≡ left + (cursor_of cursors at).step) × IsKeyOf cursors target (cursor_of cursors at).next left)
    split zero key a = absurd (away a.0)
    split (suc count) key a = (a.1, (a.2, a.3, record { count = count; arrives = a.4 }))

    pub way_on : ((cursor_of cursors at).next < length cursors) × ((left : ℕ) × (rest ≡ left + (cursor_of cursors at).step) × IsKeyOf cursors target (cursor_of cursors at).next left)
    way_on = split p.way.count rest p.way.arrives

    -- the key falls
    pub step_within : ((cursor_of cursors at).step ≤ rest) × (33461 ≤ (cursor_of cursors at).step)
    step_within = (let e = way_on.1.1 in omega arith, follow.some at p.inside)

    pub settling_more : IsSettling cursors target before (set keys at rest) from (cursor_of cursors at).next (rest - (cursor_of cursors at).step)
    settling_more =
        let on = way_on in
        let e = on.1.1 in
        let l = p.inside in
        let w = p.keyed.whole in
        let low = key_most at rest p.inside p.way in
        let some : rest ≢ 4294967295 = λ e. absurd (omega arith) in
        let here : slice_index (set keys at rest) at ≡ rest = get_or-set_same keys at rest 0 (omega arith) in
        let aside : (place : ℕ) → place ≢ at → slice_index (set keys at rest) place ≡ slice_index keys place
        = λ place apart. get_or-set_other keys at place rest 0 apart in
        record {
          keyed = record {
            whole = length-set keys at rest ∙ p.keyed.whole;
            start = aside target (λ same. away (sym same)) ∙ p.keyed.start;
            last = aside (length cursors) (λ same. absurd (omega arith)) ∙ p.keyed.last;
            known = λ place m. elim (cases_eq place at) [
              | inl same ↦ inr (rw same (subst (IsKeyOf cursors target at) (sym here) p.way))
              | inr apart ↦ rw (aside place apart) (p.keyed.known place m)
            ];
          };
          inside = on.0;
          way = subst (IsKeyOf cursors target (cursor_of cursors at).next) (omega arith) on.1.2;
          kept = λ place known.
              let as_before = p.kept place known in
              aside place (λ same. known (sym as_before ∙ ap (slice_index keys) same ∙ none)) ∙ as_before;
          reached = elim (cases_eq from at) [
            | inl same ↦ inl (rw (same, here) some)
            | inr apart ↦ elim p.reached [
              | inl known ↦ inl (rw (aside from apart) known)
              | inr same ↦ absurd (apart same)
            ]
          ];
        }

  -- ---- all keys

  pub found_more : (before keys : List ℕ) (place : ℕ) → AreFound cursors target before place → AreKeysWith cursors target place before keys → AreFound cursors target keys (place + 1)
  found_more before keys place p q = record {
    keyed = q.keys;
    found = λ other l. elim (cases_eq other place) [
      | inl same ↦ subst (λ k. slice_index keys k ≢ 4294967295) (sym same) q.known
      | inr apart ↦ let known = p.found other (omega arith) in rw (q.kept other known) known
    ];
  }

  pub found_all : (keys : List ℕ) (upto : ℕ) → AreFound cursors target keys upto → length cursors ≤ upto → AreAllKeys cursors target keys
  found_all keys upto p all = record {
    whole = p.keyed.whole;
    last = p.keyed.last;
    each = λ place l. known_key keys place p.keyed l (p.found place (omega arith));
  }

  pub first_lost : (keys : List ℕ) (place : ℕ) → AreFound cursors target keys place → place < length cursors → IsLost cursors target place → IsFirstLost cursors target place
  first_lost keys place p l lost = record {
    within = l;
    lost = lost;
    earlier = λ other before. (slice_index keys other, known_key keys other p.keyed (omega arith) (p.found other before));
  }
