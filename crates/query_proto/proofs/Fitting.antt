-- Which protocol has a request, by its frame.
use Rattle.std.proofs.Common.{◌≡◌, ℕ, List, [], ◌∷◌, slice_index, refl, sym, ap, ◌∙◌, arith, rules}
use Rattle.moves.specs.declared.Terrain.{Terrain}
use Rattle.moves.specs.declared.Terrain.TheVariants.{Blocked, Land, Water}
use Rattle.edit_log.specs.declared.edit.CellChange.{CellChange}
use Rattle.query_proto.specs.declared.protocols.Proto.{Proto}
use Rattle.query_proto.specs.declared.protocols.Proto.TheVariants.{Start, One, Two}
use Rattle.query_proto.specs.declared.requests.Request.{Request}
use Rattle.query_proto.specs.declared.requests.Request.TheVariants as request
use Rattle.query_proto.specs.Frames.{Fits, FitsEdit, HasFrame, IsEditSize, IsPlainEdit, IsRequestFrame, edit_bytes, request_bytes, terrain_byte}

plain_size : (edit : List CellChange) → IsPlainEdit edit → IsEditSize edit
plain_size [] plain = absurd plain
plain_size (change ∷ []) plain = (omega arith, omega arith)
plain_size (change ∷ next ∷ rest) plain = absurd plain

edit_size : (proto : Proto) (edit : List CellChange) → FitsEdit proto edit → IsEditSize edit
edit_size Start edit fits = plain_size edit fits
edit_size One edit fits = plain_size edit fits
edit_size Two edit fits = fits

-- what a protocol has some protocol has
pub fits_some : (proto : Proto) (request : Request) → Fits proto request → HasFrame request
fits_some proto (request.Query start goal) fits = search rules
fits_some proto (request.Change edit) fits = edit_size proto edit fits
fits_some proto request.Build fits = search rules
fits_some proto request.Status fits = search rules
fits_some proto request.Bye fits = search rules
fits_some proto request.Stop fits = search rules
fits_some proto request.Hello fits = search rules

-- lists that are the same begin with the same number
same_first : (a b : ℕ) {xs ys : List ℕ} → a ∷ xs ≡ b ∷ ys → a ≡ b
same_first a b e = ap (λ l. slice_index l 0) e

is_water : (terrain : Terrain) → terrain_byte terrain ≡ 2 → terrain ≡ Water
is_water Blocked e = absurd (omega (arith, e))
is_water Land e = absurd (omega (arith, e))
is_water Water e = refl

-- two edits with one frame are both plain or both not
same_plain : (edit other : List CellChange) → IsEditSize edit → edit_bytes edit ≡ edit_bytes other → IsPlainEdit other → IsPlainEdit edit
same_plain edit [] size e plain = absurd plain
same_plain edit (change ∷ next ∷ rest) size e plain = absurd plain
same_plain [] (change ∷ []) size e plain = absurd (omega (arith, size.0))
same_plain (first ∷ []) (change ∷ []) size e plain =
    let same : terrain_byte first.terrain ≡ terrain_byte change.terrain = ap (λ l. slice_index l 5) e in
    λ water. plain (is_water change.terrain (sym same ∙ ap terrain_byte water))
same_plain (first ∷ second ∷ rest) (change ∷ []) size e plain = absurd (omega (arith, same_first 8 2 e))

same_edit : (proto : Proto) (edit other : List CellChange) → IsEditSize edit → edit_bytes edit ≡ edit_bytes other → FitsEdit proto other
    → FitsEdit proto edit
same_edit Start edit other size e fits = same_plain edit other size e fits
same_edit One edit other size e fits = same_plain edit other size e fits
same_edit Two edit other size e fits = size

-- the frame of an edit begins with 2 or 8
not_an_edit : (edit : List CellChange) (k : ℕ) (rest : List ℕ) → edit_bytes edit ≡ k ∷ rest → (k ≡ 2 → ⊥) → (k ≡ 8 → ⊥) → ⊥
not_an_edit [] k rest e two eight = eight (sym (same_first 8 k e))
not_an_edit (change ∷ []) k rest e two eight = two (sym (same_first 2 k e))
not_an_edit (change ∷ next ∷ others) k rest e two eight = eight (sym (same_first 8 k e))

-- a protocol has both of two requests with one frame, or none of them
same_fit : (proto : Proto) (one other : Request) → HasFrame one → request_bytes one ≡ request_bytes other → Fits proto other → Fits proto one
same_fit proto (request.Query start goal) other has e fits = search rules
same_fit proto request.Build other has e fits = search rules
same_fit proto request.Status other has e fits = search rules
same_fit proto request.Bye other has e fits = search rules
same_fit proto request.Stop other has e fits = search rules
same_fit proto (request.Change edit) (request.Change other) has e fits = same_edit proto edit other has e fits
same_fit proto (request.Change edit) (request.Query start goal) has e fits = absurd (not_an_edit edit 1 _ e (λ k. omega (arith, k)) (λ k. omega (arith, k)))
same_fit proto (request.Change edit) request.Build has e fits = absurd (not_an_edit edit 3 _ e (λ k. omega (arith, k)) (λ k. omega (arith, k)))
same_fit proto (request.Change edit) request.Status has e fits = absurd (not_an_edit edit 4 _ e (λ k. omega (arith, k)) (λ k. omega (arith, k)))
same_fit proto (request.Change edit) request.Bye has e fits = absurd (not_an_edit edit 5 _ e (λ k. omega (arith, k)) (λ k. omega (arith, k)))
same_fit proto (request.Change edit) request.Stop has e fits = absurd (not_an_edit edit 6 _ e (λ k. omega (arith, k)) (λ k. omega (arith, k)))
same_fit proto (request.Change edit) request.Hello has e fits = absurd (not_an_edit edit 7 _ e (λ k. omega (arith, k)) (λ k. omega (arith, k)))
same_fit proto request.Hello (request.Change other) has e fits = absurd (not_an_edit other 7 _ (sym e) (λ k. omega (arith, k)) (λ k. omega (arith, k)))
same_fit proto request.Hello (request.Query start goal) has e fits = absurd (omega (arith, same_first 7 1 e))
same_fit proto request.Hello request.Build has e fits = absurd (omega (arith, same_first 7 3 e))
same_fit proto request.Hello request.Status has e fits = absurd (omega (arith, same_first 7 4 e))
same_fit proto request.Hello request.Bye has e fits = absurd (omega (arith, same_first 7 5 e))
same_fit proto request.Hello request.Stop has e fits = absurd (omega (arith, same_first 7 6 e))
same_fit proto request.Hello request.Hello has e fits = fits

-- a frame of a request that the protocol does not have is that of no request that it has
pub not_fitting : (proto : Proto) (frame : List ℕ) (request : Request) → HasFrame request → frame ≡ request_bytes request
    → (Fits proto request → ⊥) → (other : Request) → IsRequestFrame proto other frame → ⊥
not_fitting proto frame request has e not other (fits, f) = not (same_fit proto request other has (sym e ∙ f) fits)

-- nor is a frame of no request at all
pub not_spelled : (proto : Proto) (frame : List ℕ) → ((request : Request) → HasFrame request → frame ≡ request_bytes request → ⊥)
    → (request : Request) → IsRequestFrame proto request frame → ⊥
not_spelled proto frame none request (fits, e) = none request (fits_some proto request fits) e
