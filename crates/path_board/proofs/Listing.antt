-- The list that a board stands for is its history.
use Rattle.std.proofs.Common.{◌≡◌, ℕ, ◌≤◌, List, [], ◌∷◌, ◌++◌, length, sym, ap, ◌∙◌, subst, arith, Bool, true, false, cond, IsTrue, IsFalse, Result, Ok, Err, OnOk, OnErr, IfOk, IsOk}
use Rattle.std.proofs.lemmas.List.{take_all}
use Rattle.path_core.specs.declared.TheConstants.{MAX_ENTRIES}
use Rattle.path_core.specs.declared.entry.Entry.{Entry}
use Rattle.versions.specs.Databases.{Versioned}
use Rattle.path_core.specs.declared.entry.Entry.TheVariants.{Halt}
use Rattle.path_core.specs.Boards.{Boarded, MayBePublished, with_entry}
use Rattle.path_core.specs.Histories.{accepted_count}
use Rattle.path_board.specs.declared.state.BoardState.{BoardState}
use Rattle.path_board.specs.Foundations.{foundation_of}
use Rattle.path_board.specs.Listed.{listed}
use Rattle.path_board.specs.States.{AddsEntry, IsState}

pub listed_all : (history : List Entry) → length history ≤ MAX_ENTRIES → listed history ≡ history
unfolding listed
listed_all history few = take_all MAX_ENTRIES history few

pub listed_none : (history : List Entry) → history ≡ [] → listed history ≡ []
listed_none history empty = rw empty (listed_all [] (omega arith))

pub publishable_whole : (state : BoardState) (version : Versioned) → IsState state
    → MayBePublished state.board.start state.board.order (listed state.board.history) version
    → MayBePublished state.board.start state.board.order state.board.history version
publishable_whole state version is may = subst (λ l. MayBePublished state.board.start state.board.order l version) is.list may

pub known_whole : (state : BoardState) (known : ℕ) → IsState state → known ≤ accepted_count (listed state.board.history)
    → known ≤ accepted_count state.board.history
known_whole state known is few = subst (λ l. known ≤ accepted_count l) is.list few

-- a fact of an answer leads to another
pub on_one : {A E : Type 0} (r : Result A E) (P S : Type 0) → OnOk r P → (P → S) → OnOk r S
on_one (Ok x) P S p f = f p
on_one (Err e) P S p f = p

-- what an entry adds to a board it adds to the list
pub added : (old new : BoardState) (entry : Entry) → IsState old → IsState new → new.board.history ≡ old.board.history ++ entry ∷ []
    → foundation_of new.board ≡ foundation_of old.board → AddsEntry old new entry
added old new entry was is grown base = record {
  history = grown;
  list = is.list ∙ grown ∙ ap (λ l. l ++ entry ∷ []) (sym was.list);
  base = base;
}

-- the same of what the answer holds
pub on_each : {A E : Type 0} (r : Result A E) (P S : A → Type 0) → IfOk r P → ((x : A) → P x → S x) → IfOk r S
on_each (Ok x) P S p f = f x p
on_each (Err e) P S p f = p

-- ---- halts

pub halt_added : (old new : BoardState) (pass : ℕ) (halted : Bool) → IsState old → IsState new
    → new.board ≡ cond halted (with_entry old.board (Halt pass)) old.board → IsTrue halted → AddsEntry old new (Halt pass)
halt_added old new pass halted was is after yes_halted =
    let same : new.board ≡ with_entry old.board (Halt pass) = after ∙ ap (λ h. cond h (with_entry old.board (Halt pass)) old.board) yes_halted in
    added old new (Halt pass) was is (ap (λ b. b.history) same) (ap foundation_of same)

pub halt_none : (old new : BoardState) (pass : ℕ) (halted : Bool) → new.board ≡ cond halted (with_entry old.board (Halt pass)) old.board → IsFalse halted → new ≡ old
halt_none old new pass halted after none =
    ap (λ (b : Boarded). record { board = b }) (after ∙ ap (λ h. cond h (with_entry old.board (Halt pass)) old.board) none)

-- a halt that is refused for want of room was not there
pub halt_refused : {A E : Type 0} (r : Result A E) (H R : Type 0) → OnErr r R → (H → IsOk r) → OnErr r ((H → ⊥) × R)
halt_refused (Ok x) H R refused there = refused
halt_refused (Err e) H R refused there = ((λ h. let failed : false ≡ true = there h in cc), refused)
