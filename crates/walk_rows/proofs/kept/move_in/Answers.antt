use Rattle.std.proofs.Common.{refl}
use Rattle.row_store.proofs.CompLaws.{found_by_number}
use Rattle.walk_rows.proofs.Keeping.{kept_from_words}
use Rattle.walk_rows.proofs.kept.move_in.Goals as goal

pub returns : goal.returns
returns c =
    kept_from_words _ _ _ c.args.to _ c.requires.to c.requires.words
    (found_by_number _ _ _ _ c.of.ensures c.find_word_move-number.ensures.limit c.unwrap_or_default.ensures _ _ c.args.to refl c.find_word_move-number.ensures.found)
