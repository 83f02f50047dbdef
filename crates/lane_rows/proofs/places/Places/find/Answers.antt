use Rattle.std.proofs.Common.{◌<◌, ◌∙◌, arith, length}
use Rattle.std.proofs.lemmas.List.{get_or_default}
use Rattle.lane_rows.specs.Tables.{IsInBox}
use Rattle.lane_rows.proofs.Indexing.{find_found, find_missing}
use Rattle.lane_rows.proofs.places.Places.find.Goals as goal

pub returns-then-index-len-clause-found : goal.returns-then-index-len-clause-found
returns-then-index-len-clause-found c =
    let l : c.index_in-index.result < length c.args.self.now.places.items = omega arith in
    let inside : IsInBox c.args.self.now.left c.args.self.now.top c.args.self.now.width c.args.cell = record { from_left = omega arith; to_right = omega arith; from_top = omega arith } in
    find_found _ _ _ _ _ _ _ _ c.requires.known.indexed l (c.index.ensures ∙ get_or_default _ _ _ 0 l) inside c.index_in-index.ensures

pub returns-else-index-len-clause-missing : goal.returns-else-index-len-clause-missing
returns-else-index-len-clause-missing c = λ none. find_missing _ _ _ _ _ _ _ c.requires.known.indexed (omega arith) c.index_in-index.ensures
