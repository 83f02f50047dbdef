-- The cells around a cell that are in its component and have no bit tell its legal moves on the live map.
use Rattle.std.proofs.Common.{◌≡◌, ℕ, ◌+◌, ◌<◌, true, List, [], ◌∷◌, length, set, slice_index, refl, sym, ap, subst, ◌∙◌, inl, inr, arith}
use Rattle.std.proofs.lemmas.List.{get_or-set_other, get_or-set_same, length-set}
use Rattle.std.proofs.lemmas.Bool.{cases_eq, cases_lt, false≢true}
use Rattle.moves.specs.declared.Cell.{Cell}
use Rattle.moves.specs.declared.Move.{Move}
use Rattle.moves.specs.declared.Move.TheVariants.{N, NE, E, SE, S, SW, W, NW}
use Rattle.moves.specs.Maps.{IsLike}
use Rattle.moves.specs.Moves.{IsLegal, IsTarget, corner, is_diagonal, number_of}
use Rattle.moves.proofs.ComponentLaws.{members_are_like}
use Rattle.moves.proofs.LawsOfPaths.{one_move}
use Rattle.moves.proofs.MoveLaws.{same_move, same_target}
use Rattle.moves.proofs.StraightPaths.{halves, replaced, sideways, vertical}
use Rattle.kept_sources.proofs.Parting.{legal_of_part}
use Rattle.versions.specs.Databases.{Versioned, comp_at}
use Rattle.versions.proofs.BestWalks.{component_of, kept_cells}
use Rattle.path_image.specs.Answers.{IsHomeOf}
use Rattle.path_image.proofs.Homes.{apart, contains_at, home_of_passable}
use Rattle.live_maps.specs.Told.{Living}
use Rattle.live_maps.proofs.Along.{clear_passable, passable_clear}
use Rattle.live_maps.proofs.Blocking.{bits_make_live}
use Rattle.live_maps.proofs.Free.{live_move, part}
use Rattle.live_search.specs.declared.seeking.Seek.{Seek}
use Rattle.live_search.specs.Sound.{IsAbout, now}
use Rattle.live_search.specs.Steps.{HasCorners, HasNoBit, IsPlaceBehind, IsRound}

-- the moves beside a diagonal one, by their numbers
beside_vertical : (near : List ℕ) (size : ℕ) (by : Move) → is_diagonal by ≡ true → HasCorners near size (number_of by) → slice_index near (number_of (vertical by)) < size
beside_vertical near size N d free = absurd (false≢true d)
beside_vertical near size NE d free = (free (omega arith)).1
beside_vertical near size E d free = absurd (false≢true d)
beside_vertical near size SE d free = (free (omega arith)).0
beside_vertical near size S d free = absurd (false≢true d)
beside_vertical near size SW d free = (free (omega arith)).1
beside_vertical near size W d free = absurd (false≢true d)
beside_vertical near size NW d free = (free (omega arith)).0

beside_sideways : (near : List ℕ) (size : ℕ) (by : Move) → is_diagonal by ≡ true → HasCorners near size (number_of by) → slice_index near (number_of (sideways by)) < size
beside_sideways near size N d free = absurd (false≢true d)
beside_sideways near size NE d free = (free (omega arith)).0
beside_sideways near size E d free = absurd (false≢true d)
beside_sideways near size SE d free = (free (omega arith)).1
beside_sideways near size S d free = absurd (false≢true d)
beside_sideways near size SW d free = (free (omega arith)).0
beside_sideways near size W d free = absurd (false≢true d)
beside_sideways near size NW d free = (free (omega arith)).1

has_beside : (near : List ℕ) (size : ℕ) (by : Move) → (is_diagonal by ≡ true → (slice_index near (number_of (vertical by)) < size) × (slice_index near (number_of (sideways by)) < size))
    → HasCorners near size (number_of by)
has_beside near size N free odd = absurd (omega arith)
has_beside near size NE free odd = let f = free refl in (f.1, f.0)
has_beside near size E free odd = absurd (omega arith)
has_beside near size SE free odd = let f = free refl in (f.0, f.1)
has_beside near size S free odd = absurd (omega arith)
has_beside near size SW free odd = let f = free refl in (f.1, f.0)
has_beside near size W free odd = absurd (omega arith)
has_beside near size NW free odd = let f = free refl in (f.0, f.1)

module _ (version : Versioned) (live : Living) (seek : Seek) (start goal : Cell) (about : IsAbout version live seek start goal) (cell : Cell) (place : ℕ)
    (home : IsHomeOf version cell seek.goal.label place) (clear : HasNoBit live cell) where
  -- two cells of the component are of one class
  like_in : (to : Cell) (there : ℕ) → IsHomeOf version to seek.goal.label there → IsLike version.map cell to
  like_in to there its =
      let cells = (comp_at version.comps seek.goal.label).cells in
      let database = about.image.of.database in
      members_are_like version.map _ (component_of version.map version.order version.comps database seek.goal.label home.within) cell to
      (kept_cells version.map version.order version.comps database seek.goal.label home.within cell (contains_at cells cell place home.there))
      (kept_cells version.map version.order version.comps database seek.goal.label home.within to (contains_at cells to there its.there))

  -- a legal move stays in the component
  home_behind : (by : Move) (to : Cell) → IsLegal version.map cell by to → (there : ℕ) × IsHomeOf version to seek.goal.label there
  home_behind by to legal =
      let found = home_of_passable version about.image.of to legal.enters.passable in
      elim (cases_eq seek.goal.label found.0) [
        | inl same ↦ (found.1, subst (λ l. IsHomeOf version to l found.1) (sym same) found.2)
        | inr other ↦ absurd (apart version about.image.of cell to seek.goal.label found.0 place found.1 home found.2 other (by ∷ [], one_move version.map cell to by legal))
      ]

  module _ (near : List ℕ) (round : IsRound live seek cell near) where
    -- a move that is seen to be free is legal
    pub seen_is_legal : (by : Move) → slice_index near (number_of by) < seek.size → HasCorners near seek.size (number_of by)
        → (to : Cell) × IsLegal (now version live) cell by to × IsHomeOf version to seek.goal.label (slice_index near (number_of by))
    seen_is_legal by within free =
        let found = (round.each by).some within version start goal about in
        let to = found.0 in
        let side : (move : Move) (c : Cell) → slice_index near (number_of move) < seek.size → IsTarget cell move c → IsLike version.map cell c × HasNoBit live c =
        λ move c less target.
        (let its = (round.each move).some less version start goal about in
        let same = same_target cell move its.0 c its.1 target in
        subst (λ x. IsLike version.map cell x × HasNoBit live x) same (like_in its.0 (slice_index near (number_of move)) its.2, its.3)) in
        let corners : is_diagonal by ≡ true → (IsLike version.map cell (corner cell to) × HasNoBit live (corner cell to)) × (IsLike version.map cell (corner to cell) × HasNoBit live (corner to cell)) =
        λ d.
        (let half = halves cell by to found.1 d in (
          side (vertical by) (corner cell to) (beside_vertical near seek.size by d free) half.rise,
          side (sideways by) (corner to cell) (beside_sideways near seek.size by d free) half.aside,
        )) in
        let legal : IsLegal version.map cell by to = record {
          target = found.1;
          leaves = home.passable;
          enters = like_in to (slice_index near (number_of by)) found.2;
          corners = λ d. ((corners d).0.0, (corners d).1.0);
        } in (
          to,
          live_move version.map (now version live) (bits_make_live version.map live.bits) cell by to legal (record {
            leaves = passable_clear live version about.image cell home.passable clear;
            enters = passable_clear live version about.image to found.2.passable found.3;
            corners = λ d. (
              passable_clear live version about.image (corner cell to) (corners d).0.0.passable (corners d).0.1,
              passable_clear live version about.image (corner to cell) (corners d).1.0.passable (corners d).1.1,
            );
          }),
          found.2,
        )

    -- and a legal one is seen
    sees : (by : Move) (to : Cell) → IsLegal version.map cell by to → HasNoBit live to → slice_index near (number_of by) < seek.size
    sees by to legal free = elim (cases_lt (slice_index near (number_of by)) seek.size) [
      | inl less ↦ less
      | inr more ↦
          let its = home_behind by to legal in
          absurd ((round.each by).none more version start goal about to its.0 legal.target its.1 free)
    ]

    pub legal_is_seen : (by : Move) (to : Cell) → IsLegal (now version live) cell by to
        → (slice_index near (number_of by) < seek.size) × HasCorners near seek.size (number_of by)
    legal_is_seen by to legal =
        let baked = legal_of_part version.map (now version live) (part version.map (now version live) (bits_make_live version.map live.bits)) cell by to legal in (
          sees by to baked (clear_passable live version about.image to legal.enters.passable),
          has_beside near seek.size by (λ d.
              let half = replaced version.map cell by to baked d in
              let free = legal.corners d in (
                sees (vertical by) (corner cell to) half.rise (clear_passable live version about.image (corner cell to) free.0.passable),
                sees (sideways by) (corner to cell) half.aside (clear_passable live version about.image (corner to cell) free.1.passable),
              )),
        )

-- one more place is seen
pub round_more : (live : Living) (seek : Seek) (cell : Cell) (near : List ℕ) (number place : ℕ) (move : Move) → length near ≡ 8 → number < 8
    → ((by : Move) → number_of by < number → IsPlaceBehind live seek cell by (slice_index near (number_of by)))
    → number_of move ≡ number → IsPlaceBehind live seek cell move place
    → (length (set near number place) ≡ 8) × ((by : Move) → number_of by < number + 1 → IsPlaceBehind live seek cell by (slice_index (set near number place) (number_of by)))
round_more live seek cell near number place move whole few before is behind = (
  length-set near number place ∙ whole,
  λ by less. elim (cases_lt (number_of by) number) [
    | inl older ↦
        subst (IsPlaceBehind live seek cell by) (sym (get_or-set_other near number (number_of by) place 0 (λ e. omega arith))) (before by older)
    | inr upto ↦
        let same : number_of by ≡ number = omega arith in
        let move_is : by ≡ move = same_move by move (same ∙ sym is) in
        let read : slice_index (set near number place) (number_of by) ≡ place =
        ap (slice_index (set near number place)) same ∙ get_or-set_same near number place 0 (omega arith) in
        subst (IsPlaceBehind live seek cell by) (sym read) (subst (λ m. IsPlaceBehind live seek cell m place) (sym move_is) behind)
  ],
)
