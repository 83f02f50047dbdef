use Rattle.std.proofs.Common.{sym, ◌∙◌, subst}
use Rattle.path_image.specs.Answers.{IsEndRefusalIn}
use Rattle.path_image.specs.Reading.{IsCellIn}
use Rattle.live_maps.proofs.Refusing.{end_refused, marked_refused}
use Rattle.live_maps.proofs.live_image.LiveImage.home_of.Goals as goal

pub returns-in-Err-clause-refused : goal.returns-in-Err-clause-refused
returns-in-Err-clause-refused c = λ version image.
    end_refused c.args.self.now version image c.args.cell c.args.which c.in-Err.why
    (subst (λ w. IsEndRefusalIn w c.args.cell c.args.which c.in-Err.why) c.image.ensures.image c.in-Err.ensures.refused version image)

pub returns-then-is_marked-clause-refused : goal.returns-then-is_marked-clause-refused
returns-then-is_marked-clause-refused c = λ version image.
    marked_refused c.args.self.now version image c.args.cell c.args.which
    (subst (λ w. IsCellIn w c.args.cell) c.image.ensures.image c.in-Ok.ensures.inside) (sym c.is_marked.ensures ∙ c.if-is_marked.true)
