-- What a pass holds, by what it got of the published version.
use Rattle.std.proofs.Common.{◌≡◌, ◌≢◌, ℕ, ◌+◌, ◌<◌, ◌≤◌, Bool, List, length, length-append, refl, sym, ap, ◌∙◌, subst, arith}
use Rattle.versions.specs.Databases.{Versioned, IsVersion}
use Rattle.turn_book.specs.Histories.{AddsNoneOf}
use Rattle.turn_book.specs.Turns.{number_of}
use Rattle.turn_book.specs.Turns.{seen_of as seen_at}
use Rattle.path_core.specs.declared.entry.Entry.{Entry}
use Rattle.path_core.specs.Boards.{Boarded}
use Rattle.path_core.specs.declared.board.Look.{Look}
use Rattle.path_core.specs.Histories.{accepted_count, published_prefix, IsVersionAt}
use Rattle.path_core.specs.Looks.{IsLook}
use Rattle.path_core.specs.Passes.{pass_of, OthersAdd}
use Rattle.path_board.specs.declared.state.BoardState.{BoardState}
use Rattle.path_board.specs.declared.state.Copied.{Copied}
use Rattle.path_board.specs.declared.state.Copied.TheVariants.{Held, Refused}
use Rattle.path_board.specs.declared.pass.Pass.{Pass}
use Rattle.path_board.specs.Calls.{IsLookBut}
use Rattle.path_board.specs.Holding.{foundation_or, IsHeld}
use Rattle.path_board.specs.Listed.{listed}
use Rattle.path_board.specs.States.{IsCopied, IsState}
use Rattle.path_board.specs.Passes.{base_by, count_of, held_of, seen_of, Hands, HoldsVersion, IsBoardAt, IsUpToDate}
use Rattle.path_board.proofs.Answering.{others_of, HasMet}
use Rattle.path_board.proofs.Holdings.{board_legal, board_version, held_new, held_older, held_accepted, held_published, held_still, held_version}

-- where nothing but entries of others came, in the number that the pass keeps
pub others_seen : (before : Pass) (after : List Entry) → AddsNoneOf pass_of (number_of before.seat) (seen_at before.seat) after
    → OthersAdd before.number (seen_of before) after
others_seen before after adds =
    subst (λ number. OthersAdd number (seen_of before) after) before.numbered (others_of (number_of before.seat) (seen_at before.seat) after adds)

pub holds_version : (pass : Pass) → IsVersion (held_of pass) → HoldsVersion pass
holds_version pass whole = held_version (base_by pass) (seen_of pass) (count_of pass) (held_of pass) pass.holds whole

pub holds_accepted : (pass : Pass) → (held_of pass).prefix ≤ accepted_count (seen_of pass)
holds_accepted pass = held_accepted (base_by pass) (seen_of pass) (count_of pass) (held_of pass) pass.holds

pub up_to_date : (pass : Pass) → IsVersion (held_of pass) → count_of pass ≡ length (seen_of pass) → IsUpToDate pass
up_to_date pass whole all = record {
  version = held_published (base_by pass) (seen_of pass) (count_of pass) (held_of pass) pass.holds whole all;
  count = all;
}

-- more entries are there than at the last look
pub moved_on : (before : Pass) (after : List Entry) (count : ℕ) → AddsNoneOf pass_of (number_of before.seat) (seen_at before.seat) after
    → count ≡ length after → count ≢ count_of before → count_of before < count
moved_on before after count adds all other =
    let few = before.holds.few in
    let long : length after ≡ length (seen_of before) + length adds.more = ap length adds.is ∙ length-append (seen_of before) adds.more in
    omega (arith, other)

pub hold_same : (pass : Pass) (now : ℕ) → Hands pass now Held → IsHeld (base_by pass) (seen_of pass) now (held_of pass)
hold_same pass now h =
    held_still (base_by pass) (seen_of pass) (count_of pass) now (held_of pass) pass.holds
    (subst (λ l. published_prefix l ≡ (held_of pass).prefix) h.at.history_is h.copied_is) h.count_is

pub hold_copy : (pass : Pass) (now : ℕ) (board : Boarded) (version : Versioned) → IsBoardAt (base_by pass) (seen_of pass) board → version ≡ board.version
    → now ≡ length (seen_of pass) → IsHeld (base_by pass) (seen_of pass) now version
hold_copy pass now board version at is all =
    held_new (base_by pass) (seen_of pass) now version (board_legal (base_by pass) (seen_of pass) board at)
    (subst (λ v. IsVersionAt (base_by pass).start (base_by pass).order (seen_of pass) (published_prefix (seen_of pass)) v) (sym is)
    (board_version (base_by pass) (seen_of pass) board at)) all

pub hold_older : (pass : Pass) (now : ℕ) → Hands pass now Refused → (held_of pass).prefix < published_prefix (seen_of pass)
hold_older pass now h =
    held_older (base_by pass) (seen_of pass) (count_of pass) (held_of pass) pass.holds (board_legal (base_by pass) (seen_of pass) h.board h.at)
    (subst (λ l. published_prefix l ≢ (held_of pass).prefix) h.at.history_is h.copied_is)

-- what the state of a turn gives of its version to the pass whose turn it was
pub handed : (before pass : Pass) (state : BoardState) (count : ℕ) (copied : Copied) → IsState state → HasMet before state
    → seen_of pass ≡ listed state.board.history → base_by pass ≡ base_by before → IsCopied state.board (held_of pass).prefix copied
    → count ≡ length state.board.history → Hands pass count copied
handed before pass state count copied is met seen base given all = record {
  board = state.board;
  at = record { history_is = sym (seen ∙ is.list); base_is = sym (ap foundation_or met.base_is) ∙ sym base; sound = is.sound };
  copied_is = given;
  count_is = all ∙ ap length (sym (seen ∙ is.list));
}

-- a look but for whether the version is held
pub look_but : (board : Boarded) (seen : Look) (held : Bool) → IsLook board seen → IsLookBut (record seen { held = held }) board
look_but board seen held is = record {
  prefix = is.prefix;
  cells = is.cells;
  comps = is.comps;
  runs = is.runs;
  accepted = is.accepted;
  halting = is.halting;
  held = refl;
}
