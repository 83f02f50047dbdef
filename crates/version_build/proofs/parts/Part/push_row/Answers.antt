use Rattle.std.proofs.Common.{◌≡◌, List, [], ◌∷◌, ◌++◌, length, map, ap, ◌∙◌}
use Rattle.std.specs.Arc.{arc_value}
use Rattle.std.specs.Option.{option_map}
use Rattle.run_pack.specs.declared.Run.{Run}
use Rattle.run_pack.specs.Runs.{run_of_word}
use Rattle.build_pool.proofs.Connecting.{packable}
use Rattle.version_build.specs.Builders.{Parted}
use Rattle.version_build.proofs.Knowing.{known_row}
use Rattle.version_build.proofs.parts.Part.push_row.Goals as goal

pub push_words-requires-clause-few : goal.push_words-requires-clause-few
push_words-requires-clause-few c = c.in-Some.ensures.few

pub returns-in-Some-clause-ok : goal.returns-in-Some-clause-ok
returns-in-Some-clause-ok c =
    let cells : c.deref.result.now ≡ c.args.self.now.cells = c.deref.ensures.value ∙ ap (λ p. p.cells) c.self.view_is in
    let place : c.len-place.result ≡ length c.args.self.now.rows = c.len-place.ensures ∙ ap (λ p. length p.rows) c.self.view_is in
    let with_rows : List (List Run) → Parted = λ rows. record { kept = option_map arc_value c.self.inside.kept; cells = c.self.inside.cells.items; rows = rows } in
    let with_row : Parted → Parted = λ part. record { kept = part.kept; cells = part.cells; rows = part.rows ++ map run_of_word c.in-Some.words.now ∷ [] } in
    record {
      row = map run_of_word c.in-Some.words.now;
      is = known_row _ _ _ _ c.requires.component c.requires.left (rw (cells, place) at c.in-Some.ensures);
      last = c.shrink_if_done.ensures ∙ (ap with_rows c.in_ok-push_words.ensures.ok ∙ ap with_row c.self.view_is);
    }

pub push_sets-requires-clause-sets : goal.push_sets-requires-clause-sets
push_sets-requires-clause-sets c =
    let cells : c.deref-2.result.now ≡ c.args.self.now.cells = c.deref-2.ensures.value ∙ ap (λ p. p.cells) c.self.view_is in
    let place : c.len-place.result ≡ length c.args.self.now.rows = c.len-place.ensures ∙ ap (λ p. length p.rows) c.self.view_is in
    let first = rw (cells, place) at c.in_ok-find.ensures.first in
    rw c.sets.ensures (packable _ _ c.requires.component _ _ c.requires.left c.requires.few first)
