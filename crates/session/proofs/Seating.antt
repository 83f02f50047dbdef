-- What the calls of a desk give, by what those of its board give: of one's own, and of a shared one.
use Rattle.std.proofs.Common.{◌≡◌, ℕ, IsTrue, IsFalse, List, None, Result, Ok, Err, IfOk, OnOk, sym, subst, ap, ◌∙◌}
use Rattle.edit_log.specs.declared.edit.Edit.{Edit}
use Rattle.edit_log.specs.Verdicts.{MayBeAccepted}
use Rattle.path_core.specs.declared.entry.Entry.{Entry}
use Rattle.path_core.specs.declared.entry.Entry.TheVariants.{Accept}
use Rattle.path_core.specs.declared.error.SubmitError.{SubmitError}
use Rattle.path_core.specs.declared.board.Look.{Look}
use Rattle.path_core.specs.Boards.{Boarded, with_entry}
use Rattle.path_core.specs.Histories.{accepted_count, map_now, published_prefix, IsHalting, IsLegal, IsVersionAt}
use Rattle.path_core.specs.Passes.{OthersAdd}
use Rattle.path_core.specs.Refusals.{MayBeSubmitted}
use Rattle.path_board.specs.declared.pass.Pass.{Pass}
use Rattle.path_board.specs.declared.state.Foundation.{Foundation}
use Rattle.path_board.specs.Calls.{AnswersAt, EntersAt, IsLookBut}
use Rattle.path_board.specs.Passes.{base_by, held_of, seen_of, IsBoardAt, IsUpToDate, KeepsOlder, SamePass}
use Rattle.path_board.proofs.Same.{one_version}
use Rattle.session.specs.Desks.{IsEntered, Looks}
use Rattle.session.specs.Seats.{desk_of, place_of}
use Rattle.session.specs.Standing.{Meanwhile, Place}
use Rattle.session.proofs.Meanwhile.{meanwhile_none}

-- the place of the one pass of a board
abbrev pub place_alone : ℕ → Boarded → Place
place_alone pass board = record { pass = pass; start = board.start; order = board.order; room = board.room; shared = None }

-- an edit that is entered on a board of one's own
pub lone_enters : (pass : ℕ) (old new : Boarded) (edit : Edit) (result : Result ℕ SubmitError) → OnOk result (MayBeSubmitted old edit)
    → OnOk result (new ≡ with_entry old (Accept pass edit)) → IfOk result (λ count. count ≡ accepted_count new.history)
    → IfOk result (IsEntered (place_alone pass old) edit old.history new.history)
lone_enters pass old new edit (Ok count) may entered number = record {
  own = record {
    between = old.history;
    others = meanwhile_none (place_alone pass old) old.history;
    own = ap (λ (b : Boarded). b.history) entered;
  };
  may = may;
  number_is = number;
}
lone_enters pass old new edit (Err why) may entered number = tt

-- at a shared board nothing is said of a board of one's own
seat_meanwhile : (pass : Pass) (old new : List Entry) → OthersAdd pass.number old new → Meanwhile (place_of pass) old new
seat_meanwhile pass old new p =
    record { others = p; alone = λ none. let clash : (place_of pass).shared ≡ None = none in absurd (cc) }

-- an edit that is entered on a shared board
pub seat_enters : (before after : Pass) (edit : Edit) (count : ℕ)
    → EntersAt before after (Accept before.number edit) (λ board. MayBeSubmitted board edit) → count ≡ accepted_count (seen_of after)
    → IsEntered (place_of before) edit (seen_of before) (seen_of after) count
seat_enters before after edit count p number = record {
  own = record {
    between = p.own.between;
    others = seat_meanwhile before (seen_of before) p.own.between p.own.others;
    own = p.own.own;
  };
  may = subst (λ l. MayBeAccepted (map_now (base_by before).start l) (accepted_count l) edit) p.at.history_is
      (subst (λ (b : Foundation). MayBeAccepted (map_now b.start p.board.history) (accepted_count p.board.history) edit) p.at.base_is p.answer);
  number_is = number;
}

board_legal : (base : Foundation) (history : List Entry) (board : Boarded) → IsBoardAt base history board → IsLegal base.start history
board_legal base history board at =
    subst (IsLegal base.start) at.history_is (subst (λ (b : Foundation). IsLegal b.start board.history) at.base_is at.sound.legal)

board_version : (base : Foundation) (history : List Entry) (board : Boarded) → IsBoardAt base history board
    → IsVersionAt base.start base.order history (published_prefix history) board.version
board_version base history board at =
    subst (λ l. IsVersionAt base.start base.order l (published_prefix l) board.version) at.history_is
    (subst (λ (b : Foundation). IsVersionAt b.start b.order board.history (published_prefix board.history) board.version) at.base_is at.sound.version)

pub seat_looks : (before after : Pass) (look : Look) → SamePass before after → AnswersAt before after (IsLookBut look)
    → (IsTrue look.held → IsUpToDate after) → (IsFalse look.held → KeepsOlder before after)
    → Looks (desk_of before) (desk_of after) look
seat_looks before after look same p held older =
    let base = base_by before in
    let version = board_version base (seen_of after) p.board p.at in
    record {
      others = seat_meanwhile before (seen_of before) (seen_of after) p.others;
      legal = board_legal base (seen_of after) p.board p.at;
      published = p.board.version;
      is = version;
      prefix = p.answer.prefix ∙ ap published_prefix p.at.history_is;
      cells = p.answer.cells;
      comps = p.answer.comps;
      runs = p.answer.runs;
      accepted = p.answer.accepted ∙ ap accepted_count p.at.history_is;
      halting = (λ yes'. subst IsHalting p.at.history_is (p.answer.halting.0 yes'), λ is. p.answer.halting.1 (subst IsHalting (sym p.at.history_is) is));
      held = λ yes'. one_version base (seen_of after) (published_prefix (seen_of after)) (held_of after) p.board.version
          (subst (λ (b : Foundation). IsVersionAt b.start b.order (seen_of after) (published_prefix (seen_of after)) (held_of after)) same.base (held yes').version)
          version;
      kept = λ no'. ((older no').kept.held, (older no').older);
    }
