-- One target: what its keys and sets say of walks, of better ways and of loose rows.
use Rattle.std.proofs.Common.{◌≡◌, ◌≢◌, ℕ, ◌+◌, ◌*◌, ◌<◌, ◌≤◌, ◌↔◌, List, ◌∷◌, length, set, slice_index, inl, inr, refl, sym, ap, subst, ◌∙◌, arith}
use Rattle.std.specs.List.{AllPairs}
use Rattle.std.proofs.lemmas.Bool.{cases_lt, cases_eq}
use Rattle.std.proofs.lemmas.List.{get_or-set_same, get_or-set_other, length-set}
use Rattle.std.proofs.lemmas.List.Elements.{All-set}
use Rattle.root_cost.specs.Keys.{key_of}
use Rattle.root_cost.proofs.Keys.{at_most_if_key, key_if_at_most, same_if_key, few_diagonals}
use Rattle.run_pack.specs.declared.Run.{Run}
use Rattle.run_pack.specs.Runs.{start_at, move_at}
use Rattle.run_pack.specs.Sets.{IsCommon, IsLeastCommon}
use Rattle.run_pack.specs.Sets as packed
use Rattle.run_pack.proofs.SetLemmas as packed_sets
use Rattle.run_pack.proofs.RowLemmas.{start_at-le, get_or-starts_of}
use Rattle.moves.specs.declared.Cell.{Cell}
use Rattle.moves.specs.declared.Move.{Move}
use Rattle.moves.specs.Maps.{Map}
use Rattle.moves.specs.Moves.{number_of, IsLegal}
use Rattle.moves.specs.MoveSets.{Has}
use Rattle.moves.specs.Paths.{cost_of}
use Rattle.moves.specs.ComponentLaws.{HasJust}
use Rattle.moves.specs.FirstSetLists.{cell_of}
use Rattle.moves.proofs.MoveLaws.{number_below}
use Rattle.moves.proofs.MovesInSets.{Has-bit, Has-from_bit, Has-all, move_with}
use Rattle.row_store.specs.Rows.{row_at}
use Rattle.row_check.specs.declared.cursors.Cursor.{Cursor}
use Rattle.row_check.specs.Walks.{AreShaped, IsWalkOf, HasWalk}
use Rattle.row_check.specs.Faults.{IsWorse, IsEqualMove, AreWalkSets, IsLooseAt, could_go_on, not_least, last_not_least, IsLoose, IsClear, IsFirstWithout, IsFirstWorse, IsFirstLoose}
use Rattle.row_check.specs.Marking.{AreNear, edges_of, end_of}
use Rattle.row_check.specs.Following.{cursor_of, step_numbered, IsKeyOf, CanFollow, AreAllKeys, IsFirstLost, AreCursors, IsBehind, IsOver, HaveGoneOn, AreBehind, HasRun}
use Rattle.row_check.specs.Offers.{offered, AreSets, CanAllOffer, IsOfferedLess, IsFirstOfferedLess}
use Rattle.row_check.specs.Joining.{IsJoined, IsJoinedBefore, IsNextSet, AreTaken, IsFirstFoundLoose}
use Rattle.row_check.specs.Checking.{HasSets, IsChecked}
use Rattle.row_check.proofs.Edging.{same_place, led, legal_to, end_most}
use Rattle.row_check.proofs.Arriving.{one_key, key_most, key_some}
use Rattle.row_check.proofs.Tightening.{starts_later}
use Rattle.row_check.proofs.Bridging.{HasKeyedWalk, key_of-cons, walk_of_key, key_of_walk, can_follow}

-- ---- sets by numbers and by moves

pub numbered_if_has : (set : ℕ) (move : Move) → Has set move → packed.Has set (number_of move)
numbered_if_has set move h = packed_sets.Has-from_bit set (number_of move) (Has-bit set move h)

pub has_if_numbered : (set : ℕ) (move : Move) → packed.Has set (number_of move) → Has set move
has_if_numbered set move h = Has-from_bit set move (packed_sets.bit_from_Has set (number_of move) h)

-- ---- lists of sets that have the same moves before a place

pub record Agree (a b : List ℕ) (upto : ℕ) : Type 0 where
  pub each : (place : ℕ) → place < upto → (move : ℕ) → move < 8 → packed.Has (slice_index a place) move ↔ packed.Has (slice_index b place) move

pub agree_back : (a b : List ℕ) (upto : ℕ) → Agree a b upto → Agree b a upto
agree_back a b upto p = record { each = λ place l move number. let both = p.each place l move number in (both.1, both.0) }

common_kept : (a b : List ℕ) (upto from end move : ℕ) → Agree a b upto → end ≤ upto → IsCommon a from end move → IsCommon b from end move
common_kept a b upto from end move p l c = record {
  number = c.number;
  everywhere = λ place start below. (p.each place (omega arith) move c.number).0 (c.everywhere place start below);
}

least_kept : (a b : List ℕ) (upto from end move : ℕ) → Agree a b upto → end ≤ upto → IsLeastCommon a from end move → IsLeastCommon b from end move
least_kept a b upto from end move p l c = record {
  common = common_kept a b upto from end move p l c.common;
  least = λ other its. c.least other (common_kept b a upto from end other (agree_back a b upto p) l its);
}

-- a row that is loose by the one list is loose by the other
pub loose_kept : (row : List Run) (a b : List ℕ) (target : ℕ) → Agree a b (target + 1) → length a ≡ length b → IsLooseAt row a target → IsLooseAt row b target
loose_kept row a b target p size (could_go_on k more at move c) = could_go_on k more at move (common_kept a b (target + 1) (start_at row k) (target + 1) move p (omega arith) c)
loose_kept row a b target p size (not_least k more at without) =
    not_least k more at (λ least. without (least_kept b a (target + 1) (start_at row k) target (move_at row k) (agree_back a b (target + 1) p) (omega arith) least))
loose_kept row a b target p size (last_not_least k last all without) =
    last_not_least k last (all ∙ size) (λ least. without (least_kept b a (target + 1) (start_at row k) (target + 1) (move_at row k) (agree_back a b (target + 1) p) (omega arith) least))

-- sets that are joined before a place stay so where the sets before it stay
pub joined_kept : (row : List Run) (places : ℕ) (a b : List ℕ) (target run common : ℕ) (cursor : Cursor) → HasRun row places cursor → cursor.run ≡ run → IsBehind cursor target
    → Agree a b target → IsJoined row a target run common → IsJoined row b target run common
joined_kept row places a b target run common cursor has is behind p joined = record {
  ended = λ k less.
      let before : start_at row (k + 1) < target = ended_before k less in
      let old = joined.ended k less in
      record {
        least = least_kept a b target (start_at row k) (start_at row (k + 1)) (move_at row k) p (omega arith) old.least;
        maximal = λ move c. old.maximal move (common_kept b a target (start_at row k) (start_at row (k + 1) + 1) move (agree_back a b target p) (omega arith) c);
      };
  shared = λ move number. (
    λ h place from upto. (p.each place upto move number).0 ((joined.shared move number).0 h place from upto),
    λ every. (joined.shared move number).1 (λ place from upto. (p.each place upto move number).1 (every place from upto)),
  );
}
  where
    ended_before : (k : ℕ) → k < run → start_at row (k + 1) < target
    ended_before k less =
        let w = has.within in
        let s = has.starts in
        let from = behind.from in
        let later = starts_later row has.is_row.rises k (omega arith) in
        let far : start_at row (k + 1) ≤ start_at row cursor.run = start_at-le row has.is_row.rises (k + 1) cursor.run (omega arith) w in
        let before = behind.before (omega arith) in
        omega arith

module _ (map : Map) (cells : List Cell) (rows : List (List Run)) (just : HasJust map cells) (once : AllPairs (λ a b. a ≢ b) cells) (shaped : AreShaped cells rows) (few : length cells ≤ 32768)
    (near : List (List ℕ)) (nears : AreNear cells near (length cells)) (cursors : List Cursor) (are : AreCursors rows near cursors)
    (target : ℕ) (inside : target < length cells) (over : (source : ℕ) → source < length cursors → IsOver (cursor_of cursors source) target) where
  long : length cursors ≡ length cells
  long = are.whole ∙ nears.whole

  follow : CanFollow cursors target
  follow = can_follow map cells rows just once shaped near nears cursors are target inside over few

  walk : (source key : ℕ) → source < length cells → IsKeyOf cursors target source key → HasKeyedWalk map cells rows just once shaped near nears cursors are target inside over source key
  walk source key l p = walk_of_key map cells rows just once shaped near nears cursors are target inside over source key l p

  key : (source : ℕ) (moves : List Move) → source < length cells → IsWalkOf map cells rows source target moves → IsKeyOf cursors target source (key_of (cost_of moves) + 1)
  key source moves l w = key_of_walk map cells rows just once shaped near nears cursors are target inside over source moves l w

  -- the first source without a walk
  pub first_without : ((earlier : ℕ) → earlier < target → IsClear map cells rows earlier) → (source : ℕ) → IsFirstLost cursors target source → IsFirstWithout map cells rows target source
  first_without clear source p = record {
    first = record { target_within = inside; source_within = (let w = long in let l = p.within in omega arith); before = clear };
    none = λ moves w. p.lost (key_of (cost_of moves) + 1) (key source moves (let w = long in let l = p.within in omega arith) w);
    earlier = λ other l. let k = p.earlier other l in let w = walk other k.0 (let w = long in let m = p.within in omega arith) k.1 in (w.moves, w.walks);
  }

  module _ (keys : List ℕ) (all : AreAllKeys cursors target keys) where
    keyed : (source : ℕ) → source < length cells → IsKeyOf cursors target source (slice_index keys source)
    keyed source l = all.each source (let w = long in omega arith)

    low : (source : ℕ) → source < length cells → slice_index keys source ≤ 47321 * 32767 + 1
    low source l = key_most cursors target follow source (slice_index keys source) (let w = long in omega arith) (keyed source l)

    -- what a walk costs has the key of its source
    cost_key : (source : ℕ) (moves : List Move) → source < length cells → IsWalkOf map cells rows source target moves → key_of (cost_of moves) + 1 ≡ slice_index keys source
    cost_key source moves l w = one_key cursors target source (key_of (cost_of moves) + 1) (slice_index keys source) (key source moves l w) (keyed source l)

    pub has_walk : (source : ℕ) → source < length cells → HasWalk map cells rows target source
    has_walk source l = let w = walk source (slice_index keys source) l (keyed source l) in (w.moves, w.walks)

    -- keys that can be offered
    pub can_all_offer : CanAllOffer near keys
    can_all_offer = record {
      whole = (let w = all.whole in let v = are.whole in omega arith);
      each = λ place l. record {
        within = λ number m.
            let move = move_with number m in
            let most = end_most map cells just near nears place move.0 (let w = nears.whole in omega arith) in
            let e : end_of (edges_of near place) move.0 ≡ slice_index (edges_of near place) number = ap (slice_index (edges_of near place)) move.1 in
            (let w = all.whole in let v = long in omega arith);
        some = λ number m.
            let move = move_with number m in
            let most = end_most map cells just near nears place move.0 (let w = nears.whole in omega arith) in
            let e : end_of (edges_of near place) move.0 ≡ slice_index (edges_of near place) number = ap (slice_index (edges_of near place)) move.1 in
            elim (cases_lt (slice_index (edges_of near place) number) (length cells)) [
              | inl here ↦ key_some cursors target follow (slice_index (edges_of near place) number) _ (keyed (slice_index (edges_of near place) number) here)
              | inr none ↦
                  let is : slice_index (edges_of near place) number ≡ length cursors = (let v = long in omega arith) in
                  let far : slice_index keys (slice_index (edges_of near place) number) ≡ 2147483648 = ap (slice_index keys) is ∙ all.last in
                  omega arith
            ];
      };
    }

    -- what a legal move and the walk from where it leads cost is what the move offers
    offer_of : (source : ℕ) (move : Move) (next : ℕ) (rest : List Move) → source < length cells → next < length cells → IsLegal map (cell_of cells source) move (cell_of cells next)
        → IsWalkOf map cells rows next target rest → key_of (cost_of (move ∷ rest)) + 1 ≡ offered (edges_of near source) keys (number_of move)
    offer_of source move next rest l m legal goes =
        let there = led map cells just near nears source move (cell_of cells next) l legal in
        let is : end_of (edges_of near source) move ≡ next = same_place cells once (end_of (edges_of near source) move) next there.0 m there.1 in
        let more = key_of-cons move rest in
        let after = cost_key next rest m goes in
        let same : slice_index keys (end_of (edges_of near source) move) ≡ slice_index keys next = ap (slice_index keys) is in
        omega arith

    -- a move that offers no more than some walk's key leads to a place
    leads_there : (source : ℕ) (move : Move) (most : ℕ) → source < length cells → most ≤ 47321 * 32767 + 1 → offered (edges_of near source) keys (number_of move) ≤ most → end_of (edges_of near source) move < length cells
    leads_there source move most l small offer = elim (cases_lt (end_of (edges_of near source) move) (length cells)) [
      | inl here ↦ here
      | inr none ↦
          let upto = end_most map cells just near nears source move l in
          let is : end_of (edges_of near source) move ≡ length cursors = (let v = long in omega arith) in
          let far : slice_index keys (end_of (edges_of near source) move) ≡ 2147483648 = ap (slice_index keys) is ∙ all.last in
          absurd (omega arith)
    ]

    diagonals : (moves : List Move) → key_of (cost_of moves) ≤ 47321 * 32768 → (cost_of moves).diagonal < 33461
    diagonals moves l = few_diagonals (cost_of moves) (omega arith)

    step_most : (move : Move) → step_numbered (number_of move) ≤ 47321
    step_most move = omega arith

    -- where no move offers less, no way is better
    pub not_worse : (source : ℕ) → source < length cells → ((number : ℕ) → number < 8 → slice_index keys source ≤ offered (edges_of near source) keys number) → IsWorse map cells rows target source → ⊥
    not_worse source l least w =
        let own : key_of (cost_of w.walk) + 1 ≡ slice_index keys source = cost_key source w.walk l w.walks in
        let offer = offer_of source w.move w.next w.rest l w.within w.legal w.goes in
        let rest : key_of (cost_of w.rest) + 1 ≡ slice_index keys w.next = cost_key w.next w.rest w.within w.goes in
        let whole = key_of-cons w.move w.rest in
        let small = low source l in
        let small_rest = low w.next w.within in
        let step = step_most w.move in
        let most = least (number_of w.move) (number_below w.move) in
        w.less (at_most_if_key (cost_of w.walk) (cost_of (w.move ∷ w.rest)) (diagonals w.walk (omega (arith, own, small))) (diagonals (w.move ∷ w.rest) (omega (arith, whole, rest, small_rest, step))) (omega (arith, own, offer, most)))

    -- where a move offers less, a way is better
    pub worse : (source : ℕ) → source < length cells → IsOfferedLess (edges_of near source) keys (slice_index keys source) → IsWorse map cells rows target source
    worse source l p =
        let move = move_with p.number p.move in
        let less : offered (edges_of near source) keys (number_of move.0) < slice_index keys source = subst (λ n. offered (edges_of near source) keys n < slice_index keys source) (sym move.1) p.less in
        let small = low source l in
        let here = leads_there source move.0 (slice_index keys source) l small (omega (arith, less)) in
        let next : ℕ = end_of (edges_of near source) move.0 in
        let own = walk source (slice_index keys source) l (keyed source l) in
        let rest = walk next (slice_index keys next) here (keyed next here) in
        let legal = legal_to map cells just near nears source move.0 l here in
        let offer = offer_of source move.0 next rest.moves l here legal rest.walks in
        record {
          walk = own.moves;
          walks = own.walks;
          move = move.0;
          next = next;
          within = here;
          legal = legal;
          rest = rest.moves;
          goes = rest.walks;
          less = λ most.
              let keys_most = key_if_at_most (cost_of own.moves) (cost_of (move.0 ∷ rest.moves)) (diagonals own.moves (omega (arith, own.keyed, small))) (diagonals (move.0 ∷ rest.moves) (omega (arith, offer, less, small))) most in
              omega (arith, keys_most, own.keyed, offer, less);
        }

    pub first_worse : ((earlier : ℕ) → earlier < target → IsClear map cells rows earlier) → (source : ℕ) → IsFirstOfferedLess near keys source → IsFirstWorse map cells rows target source
    first_worse clear source p =
        let l : source < length cells = (let w = nears.whole in let m = p.within in omega arith) in
        record {
          first = record { target_within = inside; source_within = l; before = clear };
          walks = has_walk;
          worse = worse source l p.less;
          earlier = λ other m w. not_worse other (omega arith) (p.earlier other m) w;
        }

    -- ---- sets

    module _ (sets : List ℕ) (is : AreSets near target keys sets) where
      -- the moves of a set are those that are as good as the walk
      pub equal_moves : (source : ℕ) → source < length cells → (move : Move) → Has (slice_index sets source) move ↔ IsEqualMove map cells rows target source move
      equal_moves source l move = elim (cases_eq source target) [
        | inl same ↦ (λ h. inl (ap (cell_of cells) same), λ e. subst (λ s. Has s move) (sym (ap (slice_index sets) same ∙ is.own)) (Has-all move))
        | inr apart ↦
            let set = is.each source (let w = nears.whole in omega arith) apart in
            let both = set.has (number_of move) (number_below move) in (
              λ h.
                  let equal : offered (edges_of near source) keys (number_of move) ≡ slice_index keys source = (both.0 (numbered_if_has _ move h)).1 in
                  let small = low source l in
                  let here = leads_there source move (slice_index keys source) l small (omega (arith, equal)) in
                  let next : ℕ = end_of (edges_of near source) move in
                  let own = walk source (slice_index keys source) l (keyed source l) in
                  let rest = walk next (slice_index keys next) here (keyed next here) in
                  let legal = legal_to map cells just near nears source move l here in
                  let offer = offer_of source move next rest.moves l here legal rest.walks in
                  inr (record {
                    walk = own.moves;
                    walks = own.walks;
                    next = next;
                    within = here;
                    legal = legal;
                    rest = rest.moves;
                    goes = rest.walks;
                    same = same_if_key (cost_of (move ∷ rest.moves)) (cost_of own.moves) (diagonals (move ∷ rest.moves) (omega (arith, offer, equal, small))) (diagonals own.moves (omega (arith, own.keyed, small)))
                        (omega (arith, offer, equal, own.keyed));
                  }),
              λ e. elim e [
                | inl same ↦ absurd (apart (same_place cells once source target l inside same))
                | inr a ↦
                    let offer = offer_of source move a.next a.rest l a.within a.legal a.goes in
                    has_if_numbered _ move (both.1 (number_below move, sym offer ∙ ap (λ c. key_of c + 1) a.same ∙ cost_key source a.walk l a.walks))
              ],
            )
      ]

      none_worse : (source : ℕ) → source < length cells → IsWorse map cells rows target source → ⊥
      none_worse source l w = not_worse source l (is.least source (let v = nears.whole in omega arith)) w

      module _ (old : List Cursor) (common : List ℕ) (before : AreCursors rows near old) (behind : AreBehind old target) (gone : HaveGoneOn old cursors target (length near))
          (checked : IsChecked map cells rows old common target) where
        module _ (source : ℕ) (l : source < length cells) where
          here : source < length near
          here = (let w = nears.whole in omega arith)

          hs : HasSets map cells rows source target (cursor_of old source).run (slice_index common source)
          hs = checked.joined source l

          -- the sets with that of the target
          abbrev with_set : List ℕ
          with_set = set hs.sets target (slice_index sets source)

          size : length with_set ≡ length cells
          size = length-set hs.sets target (slice_index sets source) ∙ hs.walk_sets.whole

          at_target : slice_index with_set target ≡ slice_index sets source
          at_target = get_or-set_same hs.sets target (slice_index sets source) 0 (let w = hs.walk_sets.whole in omega arith)

          aside : (place : ℕ) → place < target → slice_index with_set place ≡ slice_index hs.sets place
          aside place m = get_or-set_other hs.sets target place (slice_index sets source) 0 (λ same. absurd (omega arith))

          agree : Agree hs.sets with_set target
          agree = record { each = λ place m move number. rw (aside place m) (λ h. h, λ h. h) }

          was : HasRun (row_at rows source) (length near) (cursor_of old source)
          was = (before.each source here).has

          joined : IsJoined (row_at rows source) with_set target (cursor_of old source).run (slice_index common source)
          joined = joined_kept (row_at rows source) (length near) hs.sets with_set target (cursor_of old source).run (slice_index common source) (cursor_of old source) was refl (behind source (let w = before.whole in let h = here in omega arith)) agree hs.joined

          walk_sets : AreWalkSets map cells rows source (target + 1) with_set
          walk_sets = record {
            whole = size;
            bytes = All-set (λ s. s < 256) hs.sets target (slice_index sets source) (is.bytes source here) hs.walk_sets.bytes;
            each = λ place m n move. elim (cases_eq place target) [
              | inl same ↦ rw (same, at_target) (equal_moves source l move)
              | inr apart ↦ rw (aside place (omega arith)) (hs.walk_sets.each place m (omega arith) move)
            ];
          }

          joined_before : IsJoinedBefore (row_at rows source) with_set target (cursor_of cursors source) (slice_index common source)
          joined_before = elim (cases_eq (cursor_of old source).end target) [
            | inr apart ↦
                let same : cursor_of cursors source ≡ cursor_of old source = (gone.on source here).stays apart in
                let b = behind source (let w = before.whole in let h = here in omega arith) in
                rw same (record {
                  going = λ _. joined;
                  starting = λ some start. absurd (let m = b.before some in omega arith);
                })
            | inl at ↦
                let next : (cursor_of cursors source).run ≡ (cursor_of old source).run + 1 = (gone.on source here).goes at in
                let has = (are.each source here).has in
                let w = has.within in
                let more : (cursor_of old source).run + 1 < length (row_at rows source) = omega arith in
                let start : (cursor_of cursors source).start ≡ target =
                has.starts ∙ ap (start_at (row_at rows source)) next ∙ sym (get_or-starts_of (row_at rows source) ((cursor_of old source).run + 1) (length near) more) ∙ sym was.ends ∙ at in
                let later = starts_later (row_at rows source) was.is_row.rises (cursor_of old source).run more in
                let some : 0 < target = (let s = has.starts in let t = ap (start_at (row_at rows source)) next in omega arith) in
                record {
                  going = λ none. absurd (none some start);
                  starting = λ _ _. ((cursor_of old source).run, next, joined);
                }
          ]

          next_set : IsNextSet (row_at rows source) (length cursors) target (cursor_of cursors source) (slice_index common source) (slice_index sets source) with_set
          next_set = record { size = size ∙ sym long; before = joined_before; is = at_target }

          -- a row that is loose by other sets of the walks is loose by these
          loose_by : IsLoose map cells rows target source → IsLooseAt (row_at rows source) with_set target
          loose_by p = loose_kept (row_at rows source) p.sets with_set target (record {
            each = λ place m number low.
                let move = move_with number low in
                let place_in : place < length cells = omega arith in
                let a = p.walk_sets.each place place_in m move.0 in
                let b = walk_sets.each place place_in m move.0 in (
                  λ h. subst (packed.Has (slice_index with_set place)) move.1 (numbered_if_has _ move.0 (b.1 (a.0 (has_if_numbered _ move.0 (subst (packed.Has (slice_index p.sets place)) (sym move.1) h))))),
                  λ h. subst (packed.Has (slice_index p.sets place)) move.1 (numbered_if_has _ move.0 (a.1 (b.0 (has_if_numbered _ move.0 (subst (packed.Has (slice_index with_set place)) (sym move.1) h))))),
                );
          }) (p.walk_sets.whole ∙ sym size) p.loose

        -- all sources are taken
        pub checked_more : (now : List ℕ) → AreTaken rows cursors target common sets now (length cursors) → IsChecked map cells rows cursors now (target + 1)
        checked_more now t = record {
          clear = λ other m. elim (cases_eq other target) [
            | inr apart ↦ checked.clear other (omega arith)
            | inl same ↦ rw same (record {
              walks = has_walk;
              not_worse = none_worse;
              not_loose = λ source l p.
                  (t.each source (let w = long in omega arith) (with_set source l) (next_set source l)).1 (loose_by source l p);
            })
          ];
          joined = λ source l. record {
            sets = with_set source l;
            walk_sets = walk_sets source l;
            joined = (t.each source (let w = long in omega arith) (with_set source l) (next_set source l)).0;
          };
        }

        -- or a first one is loose
        pub first_loose_of : (source : ℕ) → IsFirstFoundLoose rows cursors target common sets source → IsFirstLoose map cells rows target source
        first_loose_of source p =
            let l : source < length cells = (let w = long in let m = p.within in omega arith) in
            record {
              first = record { target_within = inside; source_within = l; before = checked.clear };
              walks = has_walk;
              not_worse = none_worse;
              loose = record { sets = with_set source l; walk_sets = walk_sets source l; loose = p.loose (with_set source l) (next_set source l) };
              earlier = λ other m q.
                  let k : other < length cells = omega arith in
                  ((p.earlier other m).1 (with_set other k) (next_set other k)).1 (loose_by other k q);
            }
