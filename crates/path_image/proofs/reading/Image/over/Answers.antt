use Rattle.path_image.proofs.Passing.{faulty, image_leads_inside}
use Rattle.path_image.proofs.reading.Image.over.Goals as goal

pub returns-in_err-check-clause-passes : goal.returns-in_err-check-clause-passes
returns-in_err-check-clause-passes c = λ version image sides.
    absurd (faulty c.args.words.now c.in_err-check.field-0.0 (c.in_err-check.ensures.fault) (image_leads_inside c.args.words.now version image sides))
