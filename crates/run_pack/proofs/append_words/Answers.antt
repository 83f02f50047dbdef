use Rattle.std.proofs.Common.{◌≡◌, ◌++◌, length, take, drop, sym, ℕ, List}
use Rattle.std.proofs.lemmas.List.{take-append-drop}
use Rattle.run_pack.proofs.Fewest.{IsPacked-from_tight}
use Rattle.run_pack.proofs.append_words.Goals as goal

pub returns-in-Ok-clause-ok : goal.returns-in-Ok-clause-ok
returns-in-Ok-clause-ok c =
    let old : List ℕ = c.args.words.now.items in
    let new : List ℕ = c.fill.new.row.items in
    let kept : take (length old) new ≡ old = c.fill.ensures.kept in
    let whole : take (length old) new ++ drop (length old) new ≡ new = take-append-drop (length old) new in
    record {
      row = drop (length old) new;
      behind = sym (rw kept at whole);
      packed = IsPacked-from_tight _ _ c.in-Ok.ensures.tight;
    }
