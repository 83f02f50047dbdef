-- A walk that is told as far as it is free: what holds while it is told.
use Rattle.std.proofs.Common.{◌≡◌, ℕ, ◌+◌, ◌≤◌, false, List, [], ◌∷◌, ◌++◌, length, map, set, refl, sym, ap, subst, ◌∙◌, append_assoc, append-nil, arith}
use Rattle.std.proofs.lemmas.List.{length-append, length_push}
use Rattle.moves.specs.declared.Cell.{Cell}
use Rattle.moves.specs.declared.Move.{Move}
use Rattle.moves.specs.declared.TheConstants.{MAX_PASSABLE}
use Rattle.moves.specs.FirstSetLists.{cell_of}
use Rattle.moves.specs.Maps.{IsPassable, place_of}
use Rattle.moves.specs.Moves.{HasLegal, IsLegal, IsTarget, number_of}
use Rattle.moves.specs.Paths.{Leads}
use Rattle.moves.proofs.LawsOfPaths.{one_more}
use Rattle.moves.proofs.MoveLaws.{same_target}
use Rattle.versions.specs.Databases.{Versioned, comp_at}
use Rattle.path_image.specs.declared.walking.Walk.{Walk}
use Rattle.path_image.specs.declared.walking.Step.TheVariants.{Arrived, Go, Lost}
use Rattle.path_image.specs.Answers.{overwritten}
use Rattle.path_image.specs.Images.{IsImageOf}
use Rattle.path_image.specs.Reading.{width_in}
use Rattle.path_image.specs.Walks.{Advances, IsAhead}
use Rattle.path_image.proofs.Following.{ArePut, IsLeft, are_put_more, are_put_none}
use Rattle.path_image.proofs.Homes.{whole_comp}
use Rattle.path_image.proofs.Showing.{width_shown}
use Rattle.live_maps.specs.Live.{IsFreeAlong, is_marked, live_map}
use Rattle.live_maps.specs.Told.{IsClear, Living}
use Rattle.live_maps.specs.Telling.{TellsFront, TellsWhole}
use Rattle.live_maps.proofs.Blocking.{bits_make_live, passable_now, unmarked}
use Rattle.live_maps.proofs.Free.{live_move, paths_are_free}

-- the cell has no bit
abbrev pub HasNoBit : Living → Cell → Type 0
HasNoBit live cell = is_marked live.bits (place_of (width_in live.words) cell) ≡ false

module _ (live : Living) (version : Versioned) (image : IsImageOf live.words version) where
  no_bit : (cell : Cell) → HasNoBit live cell → is_marked live.bits (place_of version.map.width cell) ≡ false
  no_bit cell clear = subst (λ w. is_marked live.bits (place_of w cell) ≡ false) (width_shown live.words version image) clear

  bit_not : (cell : Cell) → is_marked live.bits (place_of version.map.width cell) ≡ false → HasNoBit live cell
  bit_not cell clear = subst (λ w. is_marked live.bits (place_of w cell) ≡ false) (sym (width_shown live.words version image)) clear

  -- a passable cell without a bit is passable now
  pub passable_clear : (cell : Cell) → IsPassable version.map cell → HasNoBit live cell → IsPassable (live_map version.map live.bits) cell
  passable_clear cell free clear = passable_now version.map live.bits cell free (no_bit cell clear)

  pub clear_passable : (cell : Cell) → IsPassable (live_map version.map live.bits) cell → HasNoBit live cell
  clear_passable cell free = bit_not cell (unmarked version.map live.bits cell free)

  -- a legal move from a cell without a bit is legal now where no bit is in its way
  pub clear_is_legal : (from : Cell) (by : Move) (to : Cell) → IsLegal version.map from by to → HasNoBit live from
      → IsClear live.bits (width_in live.words) from by to → IsLegal (live_map version.map live.bits) from by to
  clear_is_legal from by to legal here clear =
      live_move version.map (live_map version.map live.bits) (bits_make_live version.map live.bits) from by to legal (record {
        leaves = passable_clear from legal.leaves here;
        enters = passable_clear to legal.enters.passable clear.enters;
        corners = λ d. (passable_clear _ (legal.corners d).0.passable (clear.corners d).0, passable_clear _ (legal.corners d).1.passable (clear.corners d).1);
      })

  pub legal_is_clear : (from : Cell) (by : Move) (to : Cell) → IsLegal (live_map version.map live.bits) from by to
      → IsClear live.bits (width_in live.words) from by to
  legal_is_clear from by to legal = record {
    enters = clear_passable to legal.enters.passable;
    corners = λ d. (clear_passable _ (legal.corners d).0.passable, clear_passable _ (legal.corners d).1.passable);
  }

  -- and else it is not
  pub not_clear : (from : Cell) (by : Move) (to : Cell) → IsTarget from by to → (IsClear live.bits (width_in live.words) from by to → ⊥)
      → HasLegal (live_map version.map live.bits) from by → ⊥
  not_clear from by to target shut some =
      shut (legal_is_clear from by to (subst (IsLegal (live_map version.map live.bits) from by) (same_target from by some.0 to some.1.target target) some.1))

-- what was told so far: these moves are put, they were ahead, and they are a path of the live map
pub record IsToldSoFar (live : Living) (start walk : Walk) (old new : List ℕ) (count turns : ℕ) : Type 0 where
  pub done : List Move
  pub long : length done ≡ turns
  pub put : ArePut old new count done
  pub left : (version : Versioned) (moves : List Move) → IsAhead live.words version start moves → IsLeft live.words version walk done moves
  pub leads : (version : Versioned) (moves : List Move) → IsAhead live.words version start moves → HasNoBit live start.at
      → Leads (live_map version.map live.bits) start.at done walk.at
  pub clear : HasNoBit live start.at → HasNoBit live walk.at

-- a walk that is ahead begins at a passable cell
ahead_from : (words : List ℕ) (version : Versioned) (walk : Walk) (moves : List Move) → IsAhead words version walk moves → IsPassable version.map walk.at
ahead_from words version walk [] ahead = ahead.leads.0
ahead_from words version walk (move ∷ moves) ahead = ahead.leads.1.leaves

pub told_none : (live : Living) (start : Walk) (room : List ℕ) → IsToldSoFar live start start room room 0 0
told_none live start room = record {
  done = [];
  long = refl;
  put = are_put_none room;
  left = λ version moves ahead. record { rest = moves; whole = refl; ahead = ahead };
  leads = λ version moves ahead clear. (passable_clear live version ahead.image start.at (ahead_from live.words version start moves ahead) clear, refl);
  clear = λ clear. clear;
}

module _ (live : Living) (start walk : Walk) (old new : List ℕ) (count turns : ℕ) (p : IsToldSoFar live start walk old new count turns) where
  -- a step is legal on the baked map
  step_legal : (next : Walk) (by : Move) → IsTarget walk.at by next.at → (version : Versioned) (rest : List Move)
      → IsAhead live.words version walk (by ∷ rest) → IsLegal version.map walk.at by next.at
  step_legal next by target version rest ahead =
      subst (IsLegal version.map walk.at by) (same_target walk.at by ahead.leads.0 next.at ahead.leads.1.target target) ahead.leads.1

  pub told_more : (next : Walk) (by : Move) (room : List ℕ) → Advances live.words walk next (Go by) → IsTarget walk.at by next.at
      → IsClear live.bits (width_in live.words) walk.at by next.at → room ≡ set new count (number_of by)
      → IsToldSoFar live start next old room (count + 1) (turns + 1)
  told_more next by room step target free put = record {
    done = p.done ++ by ∷ [];
    long = (let l = p.long in let push = length_push p.done by in omega arith);
    put = are_put_more old new room count p.done by p.put put;
    left = λ version moves ahead.
        (let left = p.left version moves ahead in
        let taken = step version left.rest left.ahead in
        record {
          rest = taken.0;
          whole = left.whole ∙ ap (λ ms. p.done ++ ms) taken.1 ∙ sym (append_assoc p.done (by ∷ []) taken.0);
          ahead = taken.2;
        });
    leads = λ version moves ahead clear.
        (let left = p.left version moves ahead in
        let taken = step version left.rest left.ahead in
        let whole = subst (IsAhead live.words version walk) taken.1 left.ahead in
        let legal = step_legal next by target version taken.0 whole in
        one_more (live_map version.map live.bits) start.at walk.at next.at p.done by (p.leads version moves ahead clear)
        (clear_is_legal live version ahead.image walk.at by next.at legal (p.clear clear) free));
    clear = λ clear. free.enters;
  }

  -- at the goal all is told
  pub told_whole : (next : Walk) → Advances live.words walk next Arrived → (version : Versioned) (moves : List Move) → IsAhead live.words version start moves
      → HasNoBit live start.at → TellsWhole version live.bits start moves old new count
  told_whole next step version moves ahead clear =
      let left = p.left version moves ahead in
      let none = step version left.rest left.ahead in
      let same : moves ≡ p.done = left.whole ∙ ap (λ ms. p.done ++ ms) none ∙ append-nil p.done in
      let now = live_map version.map live.bits in
      let path = (paths_are_free version.map now (bits_make_live version.map live.bits) start.at p.done walk.at).0 (p.leads version moves ahead clear) in
      record {
        leads =
            (paths_are_free version.map now (bits_make_live version.map live.bits) start.at moves (cell_of (comp_at version.comps start.home.label).cells start.goal)).1
            (ahead.leads, subst (IsFreeAlong now start.at) (sym same) path.1);
        long = p.put.long ∙ ap length (sym same);
        room = p.put.room ∙ ap (λ ms. overwritten old (map number_of ms)) (sym same);
      }

  -- at a move that is not free, all before it
  pub told_front : (next : Walk) (by : Move) → Advances live.words walk next (Go by) → IsTarget walk.at by next.at
      → (IsClear live.bits (width_in live.words) walk.at by next.at → ⊥) → (version : Versioned) (moves : List Move) → IsAhead live.words version start moves
      → HasNoBit live start.at → TellsFront version live.bits start moves old new count
  told_front next by step target shut version moves ahead clear =
      let left = p.left version moves ahead in
      let taken = step version left.rest left.ahead in
      record {
        front = p.done;
        next = by;
        rest = taken.0;
        whole = left.whole ∙ ap (λ ms. p.done ++ ms) taken.1;
        at = walk.at;
        leads = p.leads version moves ahead clear;
        closed = not_clear live version ahead.image walk.at by next.at target shut;
        long = p.put.long;
        room = p.put.room;
      }

  -- over a version no walk gets lost
  pub told_never_lost : (next : Walk) → Advances live.words walk next Lost → (version : Versioned) (moves : List Move) → IsAhead live.words version start moves → ⊥
  told_never_lost next step version moves ahead = let left = p.left version moves ahead in step version left.rest left.ahead

  -- nor takes as many turns as a map may have passable cells
  pub told_never_long : MAX_PASSABLE ≤ turns → (version : Versioned) (moves : List Move) → IsAhead live.words version start moves → ⊥
  told_never_long all version moves ahead =
      let left = p.left version moves ahead in
      let few = ahead.few in
      let most = (whole_comp version ahead.image.of start.home.label ahead.within).few in
      let long = p.long in
      let whole = ap length left.whole ∙ length-append p.done left.rest in
      omega arith
