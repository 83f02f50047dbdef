-- Bytes that are written one behind the other to the front of a piece.
use Rattle.std.proofs.Common.{◌≡◌, ℕ, ◌+◌, ◌-◌, ◌≤◌, List, [], ◌++◌, length, take, drop, refl, sym, subst, ap, ◌∙◌, arith}
use Rattle.std.proofs.lemmas.List.{append-nil, append_assoc, drop-drop, drop_all, drop_at, length-append, length-drop, length-take-le, take_all, take_at}
use borrow.Rule.Slice.PartMut.{mid_of, put_mid}
use Rattle.query_proto.specs.Frames.{StandsAtFront, GrowsFront}

-- a part of a piece was lent, and bytes were written to its front
pub grows_by : (bytes out new : List ℕ) (at next : ℕ) → at + length bytes ≤ length out → next ≡ at + length bytes
    → new ≡ bytes ++ drop (length bytes) (mid_of at (length out - at) out) → GrowsFront bytes at out (put_mid at (length out - at) out new) next
grows_by bytes out new at next fits is wrote front first stands =
    let len = stands.0 in
    let whole = stands.1 in
    let size = length-drop at out in
    let left = length out - at in
    let seam : drop at out ≡ drop at first = ap (drop at) whole ∙ drop_at front (drop at first) at (sym len) in
    let mid : mid_of at left out ≡ drop at first = take_all left (drop at out) (omega arith) ∙ seam in
    let rest : drop left (drop at out) ≡ [] = drop_all left (drop at out) (omega arith) in
    let now : new ≡ bytes ++ drop (at + length bytes) first =
    wrote ∙ ap (λ l. bytes ++ drop (length bytes) l) mid ∙ ap (λ l. bytes ++ l) (drop-drop (length bytes) at first) in
    let head : take at out ≡ front = ap (take at) whole ∙ take_at front (drop at first) at (sym len) in (
      omega (arith, length-append front bytes),
      ap (λ l. l ++ (new ++ drop left (drop at out))) head ∙ ap (λ l. front ++ (new ++ l)) rest
          ∙ ap (λ l. front ++ l) (append-nil new ∙ now) ∙ sym (append_assoc front bytes (drop (at + length bytes) first))
          ∙ ap (λ n. (front ++ bytes) ++ drop n first) (sym is),
    )

-- bytes, and bytes behind them
pub grows_twice : (a b old mid new : List ℕ) (at next end : ℕ) → GrowsFront a at old mid next → GrowsFront b next mid new end
    → GrowsFront (a ++ b) at old new end
grows_twice a b old mid new at next end p q front first stands =
    subst (λ l. StandsAtFront l first new end) (append_assoc front a b) (q (front ++ a) first (p front first stands))

-- the first bytes
pub first_put : (bytes old new : List ℕ) (next : ℕ) → GrowsFront bytes 0 old new next → StandsAtFront bytes old new next
first_put bytes old new next p = p [] old (refl, refl)

-- bytes that stand behind the first n of a piece stand at its front behind the bytes that are written there
pub behind : (n k : ℕ) (lead bytes room part mid new : List ℕ) (size : ℕ) → n + k ≡ length room → length lead ≡ n
    → StandsAtFront bytes (mid_of n k room) part size → mid ≡ put_mid n k room part → new ≡ lead ++ drop n mid
    → StandsAtFront (lead ++ bytes) room new (size + n)
behind n k lead bytes room part mid new size whole long stands lent wrote =
    let size_is = stands.0 in
    let part_is = stands.1 in
    let rest_long = length-drop n room in
    let at_n : mid_of n k room ≡ drop n room = take_all k (drop n room) (omega arith) in
    let nothing : drop k (drop n room) ≡ [] = drop_all k (drop n room) (omega arith) in
    let head_long : length (take n room) ≡ n = length-take-le n room (omega arith) in
    let after : drop n mid ≡ part =
    ap (drop n) lent ∙ drop_at (take n room) (part ++ drop k (drop n room)) n head_long ∙ ap (λ l. part ++ l) nothing ∙ append-nil part in
    let bytes_then : part ≡ bytes ++ drop (n + size) room =
    part_is ∙ ap (λ l. bytes ++ drop size l) at_n ∙ ap (λ l. bytes ++ l) (drop-drop size n room) in
    let swap : n + size ≡ size + n = omega arith in (
      omega (arith, length-append lead bytes),
      wrote ∙ ap (λ l. lead ++ l) (after ∙ bytes_then) ∙ sym (append_assoc lead bytes (drop (n + size) room))
          ∙ ap (λ m. (lead ++ bytes) ++ drop m room) swap,
    )
