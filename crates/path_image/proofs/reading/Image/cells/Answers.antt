use Rattle.std.proofs.Common.{subst, sym}
use Rattle.path_image.specs.Images.{IsImageOf}
use Rattle.path_image.proofs.Showing.{cells_shown}
use Rattle.path_image.proofs.reading.Image.cells.Goals as goal

pub returns : goal.returns
returns c = λ version image. cells_shown c.self.inside.words.now version (subst (λ words. IsImageOf words version) (sym c.self.view_is) image)
