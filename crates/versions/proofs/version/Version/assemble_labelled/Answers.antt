use Rattle.std.proofs.Common.{◌≡◌, length, map, sym, ap, ◌∙◌, arith}
use Rattle.std.specs.Arc.{arc_value}
use Rattle.std.proofs.lemmas.List.{length-map}
use Rattle.versions.specs.Databases.{runs_of}
use Rattle.versions.proofs.Homes.{as_many}
use Rattle.versions.proofs.version.Version.assemble_labelled.Goals as goal

pub runs_of-requires : goal.runs_of-requires
runs_of-requires c =
    let many = as_many _ _ _ _ c.requires.labels c.requires.database in
    let size : length (map arc_value c.args.comps.items) ≡ length c.args.comps.items = length-map c.args.comps.items arc_value in
    let same = ap length c.deref.ensures.value in
    omega (arith, c.count.type_inv)

pub invariant_of-result : goal.invariant_of-result
invariant_of-result c =
    let many = as_many _ _ _ _ c.requires.labels c.requires.database in
    record {
      searchable = c.requires.searchable;
      database = c.requires.database;
      listed = c.requires.labels;
      long = many;
      cells = c.passable_count.ensures;
      components = c.count.ensures ∙ sym many;
      runs = c.runs_of.ensures ∙ ap (λ comps. runs_of (map arc_value comps)) c.deref.ensures.value;
    }
