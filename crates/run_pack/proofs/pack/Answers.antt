use Rattle.std.proofs.Common.{◌≡◌, List, map}
use Rattle.std.proofs.lemmas.List.{map-id}
use Rattle.run_pack.specs.declared.Run.{Run}
use Rattle.run_pack.proofs.Fewest.{IsPacked-from_tight}
use Rattle.run_pack.proofs.pack.Goals as goal

pub returns : goal.returns
returns c =
    let row : List Run = c.fill.new.row.items in
    let same : map (λ run. run) row ≡ row = map-id row in
    let tight = rw c.new-row.ensures.items at c.in_ok-fill.ensures.tight in
    rw (← same) (IsPacked-from_tight _ _ tight)
