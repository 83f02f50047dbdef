use Rattle.std.proofs.Common.{◌∙◌, subst, sym}
use Rattle.path_image.specs.Images.{IsImageOf}
use Rattle.path_image.proofs.Showing.{height_shown}
use Rattle.path_image.proofs.reading.Image.height.Goals as goal

pub returns-clause-height : goal.returns-clause-height
returns-clause-height c = λ version image. c.height.ensures ∙ height_shown c.self.inside.words.now version (subst (λ words. IsImageOf words version) (sym c.self.view_is) image)
