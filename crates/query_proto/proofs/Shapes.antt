-- What is known of a frame by its kind.
use Rattle.std.proofs.Common.{◌≡◌, ℕ, suc, ◌<◌, ◌≤◌, List, [], ◌∷◌, ◌++◌, length, drop, slice_index, sym, ap, ◌∙◌, arith}
use Rattle.std.proofs.lemmas.List.{drop_all, length-drop}
use Rattle.query_proto.specs.declared.requests.Request.{Request}
use Rattle.query_proto.specs.declared.requests.Request.TheVariants as request
use Rattle.query_proto.specs.Frames.{BeginsWithNoChange, CountsNoChanges, HasFrame, SpellsNoChanges, changes_bytes, request_bytes}
use Rattle.query_proto.proofs.Several.{changes_long}

-- a list that begins with k
pub front : (frame : List ℕ) (k : ℕ) → slice_index frame 0 ≡ k → 0 < length frame → frame ≡ k ∷ drop 1 frame
front [] k e h = absurd (omega arith)
front (x ∷ xs) k e h = ap (λ y. y ∷ xs) e

pub goes_on : (first : List ℕ) {a b c : List ℕ} → a ≡ first ++ b → b ≡ c → a ≡ first ++ c
goes_on first e f = e ∙ ap (λ l. first ++ l) f

pub ended : (n : ℕ) (xs : List ℕ) → length xs ≡ n → drop n xs ≡ []
ended n xs h = drop_all n xs (omega arith)

-- a frame with one byte behind its kind has two
pub two_long : (frame : List ℕ) (b : ℕ) → 0 < length frame → drop 1 frame ≡ b ∷ [] → length frame ≡ 2
two_long frame b some e = let rest : length (drop 1 frame) ≡ 1 = ap length e in omega (arith, length-drop 1 frame)

pub other_byte : (frame : List ℕ) (b c : ℕ) (rest : List ℕ) → drop 1 frame ≡ b ∷ rest → (b ≡ c → ⊥) → drop 1 frame ≡ c ∷ [] → ⊥
other_byte frame b c rest e differ f = differ (ap (λ l. slice_index l 0) (sym e ∙ f))

-- what the frame of a request is by its kind
pub record IsShaped (frame : List ℕ) : Type 0 where
  pub query : slice_index frame 0 ≡ 1 → length frame ≡ 9
  pub change : slice_index frame 0 ≡ 2 → (length frame ≡ 6) × (BeginsWithNoChange (drop 1 frame) → ⊥)
  pub alone : 2 < slice_index frame 0 → slice_index frame 0 < 7 → length frame ≡ 1
  pub hello : slice_index frame 0 ≡ 7 → drop 1 frame ≡ 2 ∷ []
  pub changes : slice_index frame 0 ≡ 8 → (CountsNoChanges frame → ⊥) × (SpellsNoChanges (drop 2 frame) → ⊥)
  pub least : 0 < slice_index frame 0
  pub most : slice_index frame 0 ≤ 8

by_alone : (frame : List ℕ) (k : ℕ) → 2 < k → k < 7 → frame ≡ k ∷ [] → IsShaped frame
by_alone frame k low high e =
    let head : slice_index frame 0 ≡ k = ap (λ l. slice_index l 0) e in
    let size : length frame ≡ 1 = ap length e in
    record {
      query = λ h. absurd (omega arith);
      change = λ h. absurd (omega arith);
      alone = λ h i. size;
      hello = λ h. absurd (omega arith);
      changes = λ h. absurd (omega arith);
      least = omega arith;
      most = omega arith;
    }

pub shaped : (request : Request) (frame : List ℕ) → HasFrame request → frame ≡ request_bytes request → IsShaped frame
shaped (request.Query start goal) frame has e =
    let head : slice_index frame 0 ≡ 1 = ap (λ l. slice_index l 0) e in
    let size : length frame ≡ 9 = ap length e in
    record {
      query = λ h. size;
      change = λ h. absurd (omega arith);
      alone = λ h i. absurd (omega arith);
      hello = λ h. absurd (omega arith);
      changes = λ h. absurd (omega arith);
      least = omega arith;
      most = omega arith;
    }
shaped (request.Change []) frame has e = absurd (omega (arith, has.0))
shaped (request.Change (change ∷ [])) frame has e =
    let head : slice_index frame 0 ≡ 2 = ap (λ l. slice_index l 0) e in
    let size : length frame ≡ 6 = ap length e in
    record {
      query = λ h. absurd (omega arith);
      change = λ h. (size, λ none. none change [] (ap (drop 1) e));
      alone = λ h i. absurd (omega arith);
      hello = λ h. absurd (omega arith);
      changes = λ h. absurd (omega arith);
      least = omega arith;
      most = omega arith;
    }
shaped (request.Change (change ∷ next ∷ rest)) frame has e =
    let head : slice_index frame 0 ≡ 8 = ap (λ l. slice_index l 0) e in
    let size : length frame ≡ suc (suc (length (changes_bytes (change ∷ next ∷ rest)))) = ap length e in
    record {
      query = λ h. absurd (omega arith);
      change = λ h. absurd (omega arith);
      alone = λ h i. absurd (omega arith);
      hello = λ h. absurd (omega arith);
      changes = λ h. (
        λ none. none (length (change ∷ next ∷ rest)) (record {
          several = omega arith;
          few = has.1;
          told = ap (drop 1) e ∙ ap (λ l. length (change ∷ next ∷ rest) ∷ l) (sym (ap (drop 2) e));
          long = omega (arith, size, changes_long (change ∷ next ∷ rest));
        }),
        λ none. none (change ∷ next ∷ rest) (ap (drop 2) e),
      );
      least = omega arith;
      most = omega arith;
    }
shaped request.Build frame has e = by_alone frame 3 (omega arith) (omega arith) e
shaped request.Status frame has e = by_alone frame 4 (omega arith) (omega arith) e
shaped request.Bye frame has e = by_alone frame 5 (omega arith) (omega arith) e
shaped request.Stop frame has e = by_alone frame 6 (omega arith) (omega arith) e
shaped request.Hello frame has e =
    let head : slice_index frame 0 ≡ 7 = ap (λ l. slice_index l 0) e in
    record {
      query = λ h. absurd (omega arith);
      change = λ h. absurd (omega arith);
      alone = λ h i. absurd (omega arith);
      hello = λ h. ap (drop 1) e;
      changes = λ h. absurd (omega arith);
      least = omega arith;
      most = omega arith;
    }

-- a frame that is to have several changes, and has no number of them, or not the changes
pub not_counted : (frame : List ℕ) → slice_index frame 0 ≡ 8 → CountsNoChanges frame
    → (request : Request) → HasFrame request → frame ≡ request_bytes request → ⊥
not_counted frame k none request has e = ((shaped request frame has e).changes k).0 none

pub not_read : (frame : List ℕ) → slice_index frame 0 ≡ 8 → SpellsNoChanges (drop 2 frame)
    → (request : Request) → HasFrame request → frame ≡ request_bytes request → ⊥
not_read frame k none request has e = ((shaped request frame has e).changes k).1 none
