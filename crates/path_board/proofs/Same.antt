-- A pass after calls, for callers.
use Rattle.std.proofs.Common.{◌≡◌, ℕ, ◌+◌, ◌-◌, ◌<◌, List, length, get_or, Some, refl, sym, ap, ◌∙◌, subst, arith}
use Rattle.atomic_table.specs.Seated.{TableId}
use Rattle.versions.specs.Databases.{IsDatabase, Versioned}
use Rattle.versions.proofs.Databases.{databases_are_determined}
use Rattle.path_core.specs.declared.entry.Entry.{Entry}
use Rattle.path_core.specs.Boards.{Boarded}
use Rattle.path_core.specs.Histories.{IsVersionAt}
use Rattle.path_board.specs.declared.state.Foundation.{Foundation}
use Rattle.path_board.specs.declared.pass.Pass.{Pass}
use Rattle.path_board.specs.Passes.{IsPassOf, SamePass}
use Rattle.path_board.specs.SharedBoards.{AreAllPasses, AreNewPasses}

-- a history has one version of each prefix, so one that is up to date is the board's
pub one_version : (base : Foundation) (seen : List Entry) (prefix : ℕ) (a b : Versioned) → IsVersionAt base.start base.order seen prefix a
    → IsVersionAt base.start base.order seen prefix b → a ≡ b
one_version base seen prefix a b p q =
    let map = p.map ∙ sym q.map in
    let order = p.order ∙ sym q.order in
    let its = subst (λ m. IsDatabase m b.order a.comps) map (subst (λ o. IsDatabase a.map o a.comps) order p.whole.database) in
    let comps = databases_are_determined b.map b.order a.comps b.comps its q.whole.database in
    λ i. record { map = map i; prefix = (p.after ∙ sym q.after) i; order = order i; comps = comps i }

pub same_pass : (pass : Pass) → SamePass pass pass
same_pass pass = record { board = refl; number = refl; base = refl; made = refl }

pub same_then : (before between after : Pass) → SamePass before between → SamePass between after → SamePass before after
same_then before between after one two = record {
  board = two.board ∙ one.board;
  number = two.number ∙ one.number;
  base = two.base ∙ one.base;
  made = two.made ∙ one.made;
}

pub same_back : (before after : Pass) → SamePass before after → SamePass after before
same_back before after same = record { board = sym same.board; number = sym same.number; base = sym same.base; made = sym same.made }

-- calls leave a pass a pass of its board
pub same_board : (id : TableId) (before after : Pass) → IsPassOf id before → SamePass before after → IsPassOf id after
same_board id before after of same = same.board ∙ of

-- the passes that `share` gave are all passes, after whatever calls
pub same_all : (id : TableId) (board : Boarded) (count : ℕ) (new passes : List Pass) → AreNewPasses id board count new → 0 < count → length passes ≡ length new
    → ((place : ℕ) (default : Pass) → place < length new → SamePass (get_or new place default) (get_or passes place default)) → AreAllPasses id passes
same_all id board count new passes news some long same =
    let total = news.count_is in
    record {
      some = omega arith;
      of = λ place default early. (same place default (omega arith)).board ∙ (news.each place default (omega arith)).of;
      number = λ place default early. (same place default (omega arith)).number ∙ (news.each place default (omega arith)).number;
      last = λ default. let at : length passes - 1 + 1 ≡ count = omega arith in
          (same (length passes - 1) default (omega arith)).made ∙ (news.each (length passes - 1) default (omega arith)).last at ∙ ap Some (sym (long ∙ total));
    }
