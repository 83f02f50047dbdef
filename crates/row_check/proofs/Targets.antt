-- From target to target, as the code has it.
use Rattle.std.proofs.Common.{◌≡◌, ℕ, ◌+◌, ◌<◌, ◌≤◌, List, ◌++◌, length, take, drop, slice_index, replicate, sym, ap, ◌∙◌, arith}
use Rattle.std.proofs.lemmas.List.{length-replicate}
use Rattle.std.proofs.Math.Seq.{take-append_seam}
use Rattle.std.proofs.lemmas.List.Elements.{All-replicate}
use Rattle.std.proofs.lemmas.List.{get_or-replicate}
use Rattle.run_pack.specs.declared.Run.{Run}
use Rattle.run_pack.proofs.SetLemmas.{Has-all}
use Rattle.moves.specs.declared.Cell.{Cell}
use Rattle.moves.specs.Maps.{Map}
use Rattle.moves.specs.ComponentLaws.{HasJust}
use Rattle.row_check.specs.declared.cursors.Cursor.{Cursor}
use Rattle.row_check.specs.Walks.{AreComponentCells, AreShaped}
use Rattle.row_check.specs.Faults.{IsFirstWithout, IsFirstWorse, IsFirstLoose}
use Rattle.row_check.specs.Marking.{AreNear}
use Rattle.row_check.specs.Following.{cursor_of, CanFollow, AreAllKeys, IsFirstLost, AreCursors, AreBehind, HaveGoneOn, IsOver}
use Rattle.row_check.specs.Offers.{AreSets, CanAllOffer, IsFirstOfferedLess}
use Rattle.row_check.specs.Joining.{AreTaken, IsFirstFoundLoose}
use Rattle.row_check.specs.Checking.{IsChecked}
use Rattle.row_check.proofs.Bridging.{can_follow}
use Rattle.row_check.proofs.Judging.{can_all_offer, first_without, first_worse, checked_more, first_loose_of}
use Rattle.row_check.proofs.Drawing.{some_map}
use Rattle.row_check.proofs.Standing.{behind_next}

-- a list that was lent and written as long as it was
pub lent : {A : Type 0} (n : ℕ) (new old : List A) → length new ≡ n → take n (new ++ drop (length new) old) ≡ new
lent n new old size = ap (λ k. take k (new ++ drop (length new) old)) (sym size) ∙ take-append_seam new (drop (length new) old)

-- before the first target nothing is asked
pub checked_none : (map : Map) (cells : List Cell) (rows : List (List Run)) (cursors : List Cursor) (common : List ℕ) (n : ℕ) → common ≡ replicate n 255 → n ≡ length cells
    → ((source : ℕ) → source < length cells → (cursor_of cursors source).run ≡ 0) → IsChecked map cells rows cursors common 0
checked_none map cells rows cursors common n full size first = record {
  clear = λ target l. absurd (omega arith);
  joined = λ source l. record {
    sets = replicate (length cells) 0;
    walk_sets = record {
      whole = length-replicate (length cells) 0;
      bytes = All-replicate (λ s. s < 256) (length cells) 0 (omega arith);
      each = λ place m none move. absurd (omega arith);
    };
    joined = record {
      ended = λ k less. absurd (let f = first source l in omega arith);
      shared = λ move number. (
        λ h place from upto. absurd (omega arith),
        λ every. (let is : slice_index common source ≡ 255 = ap (λ xs. slice_index xs source) full ∙ get_or-replicate n source 255 0 (omega arith) in rw is (Has-all move number)),
      );
    };
  };
}

module _ (cells : List Cell) (rows : List (List Run)) (comp : AreComponentCells cells) (shaped : AreShaped cells rows) (near : List (List ℕ)) (nears : AreNear cells near (length cells)) (old now : List Cursor)
    (before : AreCursors rows near old) (target : ℕ) (inside : target < length cells) (behind : AreBehind old target) (are : AreCursors rows near now) (gone : HaveGoneOn old now target (length near)) where
  over : (source : ℕ) → source < length now → IsOver (cursor_of now source) target
  over source l = gone.over source (omega (arith, are.whole, l))

  few : length cells ≤ 32768
  few = comp.few

  pub can_be_followed : CanFollow now target
  can_be_followed =
      let map = some_map cells comp.on_map in
      can_follow map.0 cells rows map.1 comp.once shaped near nears now are target inside over few

  pub all_behind : AreBehind now (target + 1)
  all_behind = behind_next now target over

  module _ (common : List ℕ) (checked : (map : Map) → HasJust map cells → IsChecked map cells rows old common target) where
    pub lost_is_first : (source : ℕ) → IsFirstLost now target source → (map : Map) → HasJust map cells → IsFirstWithout map cells rows target source
    lost_is_first source lost map just = first_without map cells rows just comp.once shaped few near nears now are target inside over (checked map just).clear source lost

    module _ (keys : List ℕ) (all : AreAllKeys now target keys) where
      pub can_be_offered : CanAllOffer near keys
      can_be_offered =
          let map = some_map cells comp.on_map in
          can_all_offer map.0 cells rows map.1 comp.once shaped few near nears now are target inside over keys all

      pub worse_is_first : (source : ℕ) → IsFirstOfferedLess near keys source → (map : Map) → HasJust map cells → IsFirstWorse map cells rows target source
      worse_is_first source less map just = first_worse map cells rows just comp.once shaped few near nears now are target inside over keys all (checked map just).clear source less

      module _ (sets : List ℕ) (is : AreSets near target keys sets) where
        pub loose_is_first : (source : ℕ) → IsFirstFoundLoose rows now target common sets source → (map : Map) → HasJust map cells → IsFirstLoose map cells rows target source
        loose_is_first source loose map just =
            first_loose_of map cells rows just comp.once shaped few near nears now are target inside over keys all sets is old common before behind gone (checked map just) source loose

        pub checked_next : (joined : List ℕ) → AreTaken rows now target common sets joined (length now) → (map : Map) → HasJust map cells → IsChecked map cells rows now joined (target + 1)
        checked_next joined taken map just =
            checked_more map cells rows just comp.once shaped few near nears now are target inside over keys all sets is old common before behind gone (checked map just) joined taken
