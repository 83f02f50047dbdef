-- What a call answers, by the state of its turn.
use Rattle.std.proofs.Common.{◌≡◌, ◌≢◌, ◌↔◌, Bool, true, false, IsFalse, ℕ, ◌<◌, ◌≤◌, List, [], ◌∷◌, ◌++◌, All, Some, sym, ap, ◌∙◌, subst, arith}
use Rattle.std.specs.List.{AllByRecursion}
use Rattle.std.proofs.lemmas.List.Elements.{All-cons, All-nil}
use Rattle.versions.specs.Databases.{Versioned}
use Rattle.turn_book.specs.Histories.{AddsNoneOf, NamesBelow, StartsWith}
use Rattle.turn_book.specs.Turns.{base_of, number_of}
use Rattle.turn_book.specs.Turns.{seen_of as seen_at}
use Rattle.path_core.specs.declared.entry.Entry.{Entry}
use Rattle.path_core.specs.Boards.{Boarded, MayBePublished}
use Rattle.path_core.specs.Histories.{accepted_count}
use Rattle.path_core.specs.Passes.{pass_of, BeginsWith, OthersAdd}
use Rattle.path_core.proofs.Growing.{accepted_edits_stay}
use Rattle.path_board.specs.declared.state.BoardState.{BoardState}
use Rattle.path_board.specs.declared.state.Foundation.{Foundation}
use Rattle.path_board.specs.declared.pass.Pass.{Pass}
use Rattle.path_board.specs.Foundations.{foundation_of}
use Rattle.path_board.specs.Holding.{foundation_or, IsHeld}
use Rattle.path_board.specs.Listed.{listed}
use Rattle.path_board.specs.Passes.{base_by, seen_of}
use Rattle.path_board.specs.States.{IsState}
use Rattle.path_board.specs.Calls.{AnswersAt, EntersAt}
use Rattle.path_board.proofs.Holdings.{held_on}

all_of : {X : Type 0} (P : X → Type 0) (xs : List X) → AllByRecursion P xs → All P xs
all_of P [] h = All-nil P
all_of P (x ∷ xs) h = All-cons P x xs h.0 (all_of P xs h.1)

pub others_of : (number : ℕ) (seen history : List Entry) → AddsNoneOf pass_of number seen history → OthersAdd number seen history
others_of number seen history adds = record { more = adds.more; grown = adds.is; none = all_of (λ entry. pass_of entry ≢ number) adds.more adds.others }

pub begins_of : (history seen : List Entry) → StartsWith history seen → BeginsWith history seen
begins_of history seen starts = record { rest = starts.more; is = starts.is }

pub named_of : (count : ℕ) (history : List Entry) → NamesBelow pass_of count history → All (λ entry. pass_of entry < count) history
named_of count history named = all_of (λ entry. pass_of entry < count) history named

-- the pass has met the state of a turn
pub record HasMet (before : Pass) (state : BoardState) : Type 0 where
  pub goes_on : AddsNoneOf pass_of (number_of before.seat) (seen_at before.seat) (listed state.board.history)
  pub base_is : base_of before.seat ≡ Some (foundation_of state.board)

met_others : (before : Pass) (state : BoardState) → HasMet before state → OthersAdd before.number (seen_of before) (listed state.board.history)
met_others before state met =
    subst (λ number. OthersAdd number (seen_of before) (listed state.board.history)) before.numbered
    (others_of (number_of before.seat) (seen_at before.seat) (listed state.board.history) met.goes_on)

met_base : (before : Pass) (state : BoardState) → HasMet before state → foundation_of state.board ≡ base_by before
met_base before state met = sym (ap foundation_or met.base_is)

-- the state that a turn lends is its own
pub met_lent : (before : Pass) (turned lent : BoardState) → lent ≡ turned
    → AddsNoneOf pass_of (number_of before.seat) (seen_at before.seat) (listed turned.board.history) → base_of before.seat ≡ Some (foundation_of turned.board)
    → HasMet before lent
met_lent before turned lent same adds base = subst (HasMet before) (sym same) (record { goes_on = adds; base_is = base })

pub seen_lent : (turned lent : BoardState) (seen : List Entry) → lent ≡ turned → seen ≡ listed turned.board.history → seen ≡ listed lent.board.history
seen_lent turned lent seen same is = is ∙ ap (λ state. listed state.board.history) (sym same)

pub one_more : (after seen history : List Entry) (entry : Entry) → after ≡ seen ++ entry ∷ [] → seen ≡ history → after ≡ history ++ entry ∷ []
one_more after seen history entry own is = own ∙ ap (λ l. l ++ entry ∷ []) is

pub one_more_as : (after seen history : List Entry) (entry same : Entry) → entry ≡ same → after ≡ seen ++ entry ∷ [] → seen ≡ history
    → after ≡ history ++ same ∷ []
one_more_as after seen history entry same is own known = one_more after seen history entry own known ∙ ap (λ e. history ++ e ∷ []) is

pub answered : (before after : Pass) (state : BoardState) (Answer : Boarded → Type 0) → IsState state → HasMet before state
    → seen_of after ≡ listed state.board.history → Answer state.board → AnswersAt before after Answer
answered before after state Answer is met seen answer = record {
  board = state.board;
  at = record { history_is = sym (seen ∙ is.list); base_is = met_base before state met; sound = is.sound };
  others = subst (OthersAdd before.number (seen_of before)) (sym seen) (met_others before state met);
  answer = answer;
}

pub entered : (before after : Pass) (entry : Entry) (old : BoardState) (Answer : Boarded → Type 0) → IsState old → HasMet before old
    → seen_of after ≡ listed old.board.history ++ entry ∷ [] → Answer old.board → EntersAt before after entry Answer
entered before after entry old Answer is met seen answer = record {
  board = old.board;
  own = record { between = listed old.board.history; others = met_others before old met; own = seen };
  at = record { history_is = sym is.list; base_is = met_base before old met; sound = is.sound };
  answer = answer;
}

-- ---- the version that the pass holds stays held

pub holds_on : (before : Pass) (base : Foundation) (after : List Entry) → base ≡ base_by before
    → AddsNoneOf pass_of (number_of before.seat) (seen_at before.seat) after → (version : Versioned) (count : ℕ)
    → IsHeld (base_by before) (seen_of before) count version → IsHeld base after count version
holds_on before base after same adds version count h =
    subst (λ b. IsHeld b after count version) (sym same) (held_on (base_by before) (seen_of before) adds.more after count version adds.is h)

pub holds_on_with : (before : Pass) (base : Foundation) (between after : List Entry) (entry : Entry) → base ≡ base_by before
    → AddsNoneOf pass_of (number_of before.seat) (seen_at before.seat) between → after ≡ between ++ entry ∷ [] → (version : Versioned) (count : ℕ)
    → IsHeld (base_by before) (seen_of before) count version → IsHeld base after count version
holds_on_with before base between after entry same adds own version count h =
    held_on base between (entry ∷ []) after count version own (holds_on before base between same adds version count h)

-- ---- what may be asked of the state

pub known_yet : (before : Pass) (state : BoardState) (known : ℕ) → HasMet before state → known ≤ accepted_count (seen_of before)
    → known ≤ accepted_count (listed state.board.history)
known_yet before state known met few =
    let more = (accepted_edits_stay (base_by before).start (base_by before).order (seen_of before) met.goes_on.more).accepted in
    let whole : accepted_count (seen_of before) ≤ accepted_count (listed state.board.history) =
    subst (λ l. accepted_count (seen_of before) ≤ accepted_count l) (sym met.goes_on.is) more in
    omega arith

pub publishable_yet : (before : Pass) (state : BoardState) (version : Versioned) → HasMet before state
    → MayBePublished (base_by before).start (base_by before).order (seen_of before) version
    → MayBePublished state.board.start state.board.order (listed state.board.history) version
publishable_yet before state version met may =
    let more = (accepted_edits_stay (base_by before).start (base_by before).order (seen_of before) met.goes_on.more).publications version may in
    subst (λ b. MayBePublished b.start b.order (listed state.board.history) version) (sym (met_base before state met))
    (subst (λ l. MayBePublished (base_by before).start (base_by before).order l version) (sym met.goes_on.is) more)

-- the same where the list is seen under another name
pub holds_at : (before : Pass) (base : Foundation) (history after : List Entry) → base ≡ base_by before
    → AddsNoneOf pass_of (number_of before.seat) (seen_at before.seat) history → after ≡ history → (version : Versioned) (count : ℕ)
    → IsHeld (base_by before) (seen_of before) count version → IsHeld base after count version
holds_at before base history after same adds is version count h =
    subst (λ l. IsHeld base l count version) (sym is) (holds_on before base history same adds version count h)

-- ---- whether a halt was entered

pub no_halt : (halted : Bool) (H : Type 0) → (IsFalse halted ↔ H) → halted ≡ true → H → ⊥
no_halt halted H same entered there = let off : halted ≡ false = same.1 there in let clash : true ≡ false = sym entered ∙ off in absurd (cc)
