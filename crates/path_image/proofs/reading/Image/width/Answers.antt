use Rattle.std.proofs.Common.{◌∙◌, subst, sym}
use Rattle.path_image.specs.Images.{IsImageOf}
use Rattle.path_image.proofs.Showing.{width_shown}
use Rattle.path_image.proofs.reading.Image.width.Goals as goal

pub returns-clause-width : goal.returns-clause-width
returns-clause-width c = λ version image. c.width.ensures ∙ width_shown c.self.inside.words.now version (subst (λ words. IsImageOf words version) (sym c.self.view_is) image)
