-- A row of cells from the first column on: it is in order, and connected.
use Rattle.std.proofs.Common.{◌≡◌, ℕ, zero, suc, ◌+◌, ◌<◌, ◌≤◌, List, [], ◌∷◌, ◌++◌, length, map, get_or, refl, sym, ◌∙◌, subst, inr, arith}
use Rattle.std.specs.List.{range_with_len, All, AllPairs, Contains}
use Rattle.std.proofs.lemmas.List.FromFn.{get_or-map-range_with_len, length-map-range_with_len, map-range_with_len_more}
use Rattle.moves.specs.declared.Cell.{Cell}
use Rattle.moves.specs.declared.TheConstants.{MAX_SIDE}
use Rattle.moves.specs.declared.Move.TheVariants.{E}
use Rattle.moves.specs.Maps.{ComesBefore}
use Rattle.moves.specs.Rectangles.{IsOnMap}
use Rattle.moves.specs.StraightPaths.{IsConnected}
use Rattle.moves.proofs.Connected.{cell_of, AreBeside, IsJoined, joined_same, joined_next, connected_from}

-- the first cells of a row
unfoldable pub row_of : ℕ → ℕ → List Cell
row_of y n = map (λ x. cell_of x y) (range_with_len 0 n)

pub row_starts : (y : ℕ) → row_of y 0 ≡ []
unfolding row_of
row_starts y = refl

pub row_goes_on : (y n : ℕ) → row_of y (n + 1) ≡ row_of y n ++ cell_of n y ∷ []
unfolding row_of
row_goes_on y n = map-range_with_len_more (λ x. cell_of x y) 0 n n (omega arith)

pub length_row : (y n : ℕ) → length (row_of y n) ≡ n
unfolding row_of
length_row y n = length-map-range_with_len (λ x. cell_of x y) 0 n

pub at_row : (y n k : ℕ) (d : Cell) → k < n → get_or (row_of y n) k d ≡ cell_of k y
unfolding row_of
at_row y n k d less = get_or-map-range_with_len (λ x. cell_of x y) 0 n k k d less (omega arith)

in_row : (y n k : ℕ) → k < n → Contains (row_of y n) (cell_of k y)
in_row y n k less = (k, subst (λ m. k < m) (sym (length_row y n)) less, at_row y n k (cell_of k y) less)

row_joined : (y n k : ℕ) → k < n → IsJoined (row_of y n) (cell_of 0 y) (cell_of k y)
row_joined y n zero less = joined_same (row_of y n) (cell_of 0 y)
row_joined y n (suc k) less =
    let near : AreBeside (cell_of k y) (cell_of (suc k) y) = (E, (omega arith, refl), refl) in
    let before = row_joined y n k (omega arith) in
    joined_next (row_of y n) (cell_of 0 y) (cell_of k y) (cell_of (suc k) y) before near (in_row y n k (omega arith)) (in_row y n (suc k) less)

pub row_is_connected : (y n : ℕ) → IsConnected (row_of y n)
row_is_connected y n =
    connected_from (row_of y n) (cell_of 0 y) (λ c h.
    let less : h.0 < n = subst (λ m. h.0 < m) (length_row y n) h.1 in
    subst (IsJoined (row_of y n) (cell_of 0 y)) (sym (at_row y n h.0 c less) ∙ h.2) (row_joined y n h.0 less))

pub row_in_order : (y n : ℕ) → AllPairs ComesBefore (row_of y n)
row_in_order y n i j d less within =
    let j_less : j < n = subst (λ m. j < m) (length_row y n) within in
    rw (at_row y n i d (omega arith)) (rw (at_row y n j d j_less) (inr (refl, less)))

pub row_on_map : (y n : ℕ) → y < MAX_SIDE → n ≤ MAX_SIDE → All IsOnMap (row_of y n)
row_on_map y n low short k d less =
    let k_less : k < n = subst (λ m. k < m) (length_row y n) less in
    rw (at_row y n k d k_less) (record { column = omega arith; row = low })
