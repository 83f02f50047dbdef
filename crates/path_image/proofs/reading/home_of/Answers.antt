use Rattle.std.proofs.Common.{refl, true, false, sym, ◌∙◌, ◌≡◌}
use Rattle.path_image.proofs.Homes.{inside_map, inside_image}
use Rattle.path_image.proofs.reading.home_of.Goals as goal

pub returns-then-not-has-clause-refused : goal.returns-then-not-has-clause-refused
returns-then-not-has-clause-refused c = λ version image. (
  refl,
  λ inside.
      (let clash : false ≡ true = sym c.if-not-has.true ∙ c.has.ensures.1 (inside_image _ version image c.args.cell inside) in absurd cc),
)

pub returns-in-None-clause-refused : goal.returns-in-None-clause-refused
returns-in-None-clause-refused c = λ version image.
    (refl, inside_map _ version image c.args.cell (c.has.ensures.0 c.if-not-has.false), c.in-None.ensures.blocked version image)
