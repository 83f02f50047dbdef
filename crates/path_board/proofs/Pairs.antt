-- Two passes of a board of three blocked cells. Only tests have them.
use Rattle.std.proofs.Common.{◌≡◌, ℕ, zero, suc, ◌+◌, ◌<◌, List, [], ◌∷◌, ◌++◌, length, get_or, take, arith, IfOk, Result, Ok, Err, subst, refl, sym, ap, ◌∙◌}
use Rattle.std.proofs.lemmas.List.{length_push}
use Rattle.atomic_table.specs.Seated.{TableId}
use Rattle.moves.specs.declared.Cell.{Cell}
use Rattle.moves.specs.declared.Terrain.TheVariants.{Blocked}
use Rattle.moves.specs.Maps.{Map, blocked_map}
use Rattle.cell_order.specs.declared.OrderKind.TheVariants.{Rows}
use Rattle.versions.specs.Databases.{Versioned}
use Rattle.edit_log.specs.declared.edit.Edit.{Edit}
use Rattle.edit_log.specs.Edits.{map_after}
use Rattle.path_core.specs.declared.board.Job.{Job}
use Rattle.path_core.specs.declared.entry.Entry.{Entry}
use Rattle.path_core.specs.declared.entry.Entry.TheVariants.{Accept}
use Rattle.path_core.specs.BlankBoards.{blank_after}
use Rattle.path_core.specs.Boards.{Boarded, MayBePublished, new_board}
use Rattle.path_core.specs.Histories.{edits_of, IsVersionAt}
use Rattle.path_core.specs.Looks.{IsJob}
use Rattle.path_core.proofs.BlankBoards.{entered_blank, first_blank}
use Rattle.path_board.specs.declared.pass.Pass.{Pass}
use Rattle.path_board.specs.declared.state.Foundation.{Foundation}
use Rattle.path_board.specs.Pairs.{ArePair, IsBlankBoard}
use Rattle.path_board.specs.Passes.{IsBoardAt, IsPassOf, SamePass}
use Rattle.path_board.specs.SharedBoards.{AreAllPasses, AreNewPasses, IsNewPass}

abbrev blank : Map
blank = blocked_map 3 1

pub blank_made : {E : Type 0} (result : Result Boarded E) (grid : Map) (version : Versioned) (room : ℕ) → grid ≡ blank → version ≡ blank_after 0
    → IfOk result (λ board. board ≡ new_board grid version room) → IfOk result IsBlankBoard
unfolding blank_after
blank_made (Ok board) grid version room eg ev made = rw (made, ev, eg) (record { start = refl; order = refl; none = refl })
blank_made (Err e) grid version room eg ev made = tt

empty_one : {X : Type 0} (xs : List X) → length xs ≡ 0 → xs ≡ []
empty_one [] none = refl
empty_one (x ∷ xs) none = absurd (omega (arith, none))

pub pair_shared : (id : TableId) (board : Boarded) (a b : Pass) (passes rest left : List Pass) → AreNewPasses id board 2 passes
    → passes ≡ rest ++ b ∷ [] → rest ≡ left ++ a ∷ [] → IsBlankBoard board → ArePair id a b
pair_shared id board a b passes rest left news off off_next blank_board =
    let count = news.count_is in
    let long : length passes ≡ length rest + 1 = ap length off ∙ length_push rest b in
    let long_next : length rest ≡ length left + 1 = ap length off_next ∙ length_push left a in
    let is : passes ≡ a ∷ b ∷ [] = off ∙ ap (λ l. l ++ b ∷ []) (off_next ∙ ap (λ l. l ++ a ∷ []) (empty_one left (omega arith))) in
    let one : IsNewPass id board 2 0 a = subst (λ l. IsNewPass id board 2 0 (get_or l 0 a)) is (news.each 0 a (omega arith)) in
    let two : IsNewPass id board 2 1 b = subst (λ l. IsNewPass id board 2 1 (get_or l 1 b)) is (news.each 1 b (omega arith)) in
    record {
      first_of = one.of;
      second_of = two.of;
      first = one.number;
      second = two.number;
      last = two.last refl;
      start = ap (λ base. base.start) one.base ∙ blank_board.start;
      order = ap (λ base. base.order) one.base ∙ blank_board.order;
    }

pub pair_same : (id : TableId) (a b later_a later_b : Pass) → ArePair id a b → SamePass a later_a → SamePass b later_b → ArePair id later_a later_b
pair_same id a b later_a later_b pair one two = record {
  first_of = one.board ∙ pair.first_of;
  second_of = two.board ∙ pair.second_of;
  first = one.number ∙ pair.first;
  second = two.number ∙ pair.second;
  last = two.made ∙ pair.last;
  start = ap (λ base. base.start) one.base ∙ pair.start;
  order = ap (λ base. base.order) one.base ∙ pair.order;
}

at_both : (P : ℕ → Pass → Type 0) (a b : Pass) → P 0 a → P 1 b → (place : ℕ) (default : Pass) → place < 2 → P place (get_or (a ∷ b ∷ []) place default)
at_both P a b p q zero default early = p
at_both P a b p q (suc zero) default early = q
at_both P a b p q (suc (suc place)) default early = absurd (omega (arith, early))

pub pair_all : (id : TableId) (a b : Pass) (passes : List Pass) → ArePair id a b → passes ≡ a ∷ b ∷ [] → AreAllPasses id passes
pair_all id a b passes pair is = subst (AreAllPasses id) (sym is) (record {
  some = omega arith;
  of = at_both (λ place pass. IsPassOf id pass) a b pair.first_of pair.second_of;
  number = at_both (λ place pass. pass.number ≡ place) a b pair.first pair.second;
  last = λ default. pair.last;
})

-- the version after the one edit of a job, which blocks a cell, may be published
pub publishable_first : (base : Foundation) (seen : List Entry) (board : Boarded) (job : Job) (edit : Edit) (cell : Cell) (version : Versioned) → base.start ≡ blank
    → base.order ≡ Rows → IsBoardAt base seen board → IsJob board 0 job → job.edits.edits ≡ edit ∷ []
    → edit ≡ record { cell = cell; terrain = Blocked } ∷ [] → version ≡ blank_after 1 → MayBePublished base.start base.order seen version
unfolding blank_after
publishable_first base seen board job edit cell version start order at taken alone is ev =
    let all : edits_of seen ≡ edit ∷ [] = ap edits_of (sym at.history_is) ∙ sym taken.edits ∙ alone in
    let v : IsVersionAt blank (blank_after 0).order (Accept 0 edit ∷ []) 1 (blank_after 1) =
    (entered_blank (new_board blank (blank_after 0) 0) 0 edit cell (first_blank 0 (blank_after 0) refl) is).versions 1 in
    let one : length (edits_of seen) ≡ 1 = ap length all in
    subst (MayBePublished base.start base.order seen) (sym ev) (record {
      accepted = omega arith;
      is = record {
        map = v.map ∙ ap (λ edits. map_after blank (take 1 edits)) (sym all) ∙ ap (λ m. map_after m (take 1 (edits_of seen))) (sym start);
        after = v.after;
        order = v.order ∙ sym order;
        whole = v.whole;
      };
    })
