-- Parts of a list of words, and where they lie.
use Rattle.std.proofs.Common.{◌≡◌, ℕ, ◌+◌, ◌-◌, ◌<◌, ◌≤◌, List, [], ◌∷◌, ◌++◌, length, get_or, take, drop, refl, sym, ap, subst, ◌∙◌, append_assoc, append-nil, arith}
use Rattle.std.specs.Prelude.{slice_range}
use Rattle.std.specs.List.{flat_map}
use Rattle.std.proofs.lemmas.List.{get_or-append-add, get_or_append_left, length-append, take-append-drop, drop_more, drop_at, take_at, take_more}
use Rattle.std.proofs.lemmas.List.Concat.{flat_map-append}

-- the part stands in the words from that place on
pub record IsPart (words : List ℕ) (at : ℕ) (part : List ℕ) : Type 0 where
  pub before : List ℕ
  pub after : List ℕ
  pub whole : words ≡ before ++ (part ++ after)
  pub long : length before ≡ at

pub part_whole : (words part : List ℕ) → words ≡ part → IsPart words 0 part
part_whole words part same = record { before = []; after = []; whole = same ∙ sym (append-nil part); long = refl }

-- a number of the part
pub part_at : (words part : List ℕ) (at k place : ℕ) → IsPart words at part → k < length part → place ≡ at + k → get_or words place 0 ≡ get_or part k 0
part_at words part at k place p inside is =
    let here : place ≡ length p.before + k = omega (arith, p.long) in
    ap (λ ws. get_or ws place 0) p.whole ∙ ap (λ n. get_or (p.before ++ (part ++ p.after)) n 0) here
    ∙ get_or-append-add p.before (part ++ p.after) k 0 ∙ get_or_append_left part p.after 0 k inside

-- the part as a slice
pub part_slice : (words part : List ℕ) (at from upto : ℕ) → IsPart words at part → from ≡ at → upto ≡ at + length part → slice_range words from upto ≡ part
part_slice words part at from upto p begins ends =
    let size : upto - from ≡ length part = omega arith in
    let long : length p.before ≡ from = omega (arith, p.long) in
    ap (λ ws. slice_range ws from upto) p.whole ∙ ap (take (upto - from)) (drop_at p.before (part ++ p.after) from long) ∙ take_at part p.after (upto - from) (sym size)

pub part_inside : (words part : List ℕ) (at : ℕ) → IsPart words at part → at + length part ≤ length words
part_inside words part at p =
    let whole = ap length p.whole ∙ length-append p.before (part ++ p.after) in
    let rest = length-append part p.after in
    let long = p.long in
    omega arith

pub part_first : (words a b : List ℕ) (at : ℕ) → IsPart words at (a ++ b) → IsPart words at a
part_first words a b at p = record {
  before = p.before;
  after = b ++ p.after;
  whole = p.whole ∙ ap (λ ws. p.before ++ ws) (append_assoc a b p.after);
  long = p.long;
}

pub part_second : (words a b : List ℕ) (at place : ℕ) → IsPart words at (a ++ b) → place ≡ at + length a → IsPart words place b
part_second words a b at place p is = record {
  before = p.before ++ a;
  after = p.after;
  whole = p.whole ∙ ap (λ ws. p.before ++ ws) (append_assoc a b p.after) ∙ sym (append_assoc p.before a (b ++ p.after));
  long = (let both = length-append p.before a in let long = p.long in omega arith);
}

-- lists joined end to end, of which one is split off
pub flat_split : {X : Type 0} (f : X → List ℕ) (xs : List X) (k : ℕ) (d : X) → k < length xs
    → flat_map f xs ≡ flat_map f (take k xs) ++ (f (get_or xs k d) ++ flat_map f (drop (k + 1) xs))
flat_split f xs k d inside =
    ap (flat_map f) (sym (take-append-drop k xs)) ∙ flat_map-append f (take k xs) (drop k xs)
    ∙ ap (λ ys. flat_map f (take k xs) ++ flat_map f ys) (drop_more xs k d inside)

pub flat_more : {X : Type 0} (f : X → List ℕ) (xs : List X) (k : ℕ) (d : X) → k < length xs
    → length (flat_map f (take (k + 1) xs)) ≡ length (flat_map f (take k xs)) + length (f (get_or xs k d))
flat_more f xs k d inside =
    ap (λ ys. length (flat_map f ys)) (take_more xs k d inside)
    ∙ ap length (flat_map-append f (take k xs) (get_or xs k d ∷ []) ∙ ap (λ ys. flat_map f (take k xs) ++ ys) (append-nil (f (get_or xs k d))))
    ∙ length-append (flat_map f (take k xs)) (f (get_or xs k d))

pub part_flat : {X : Type 0} (f : X → List ℕ) (words : List ℕ) (xs : List X) (at k place : ℕ) (d : X) → IsPart words at (flat_map f xs)
    → k < length xs → place ≡ at + length (flat_map f (take k xs)) → IsPart words place (f (get_or xs k d))
part_flat f words xs at k place d p inside is =
    let split = subst (IsPart words at) (flat_split f xs k d inside) p in
    let second = part_second words (flat_map f (take k xs)) (f (get_or xs k d) ++ flat_map f (drop (k + 1) xs)) at place split is in
    part_first words (f (get_or xs k d)) (flat_map f (drop (k + 1) xs)) place second
