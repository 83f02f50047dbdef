use Rattle.std.proofs.Common.{◌∙◌, ◌++◌, ap}
use Rattle.std.specs.Option.{option_to_list}
use Rattle.board_cases.proofs.Passes.{pair_of}
use Rattle.board_cases.proofs.shared.met_shown.Goals as goal

pub met_by-requires : goal.met_by-requires
met_by-requires g c =
    let both = pair_of _ c.args.board c.unwrap-a.result c.unwrap-b.result c.in-Ok.passes.items c.pop.new.self.items c.pop-in-Ok.new.self.items c.in-Ok.ensures.ok
    (c.pop.ensures.items ∙ ap (λ o. c.pop.new.self.items ++ option_to_list o) c.unwrap-b.ensures)
    (c.pop-in-Ok.ensures.items ∙ ap (λ o. c.pop-in-Ok.new.self.items ++ option_to_list o) c.unwrap-a.ensures) in
    record { first = both.0; second = both.1 }
