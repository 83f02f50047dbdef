use Rattle.moves.specs.declared.Move.TheVariants.{N, NE, E, SE, S, SW, W, NW}
use Rattle.grid_search.specs.Settling.{OnlyMove, EveryMove}
use Rattle.grid_search.proofs.Stepping.{steps_then, every_move, First2, First3, First4, First5, First6, First7}
use Rattle.grid_search.proofs.settling.relax.Goals as goal

pub returns : goal.returns
returns c =
    let two = steps_then _ _ (OnlyMove N) (OnlyMove E) First2 _ _ _ (λ move h. h) c.step.ensures.steps c.step-2.ensures.steps in
    let three = steps_then _ _ First2 (OnlyMove S) First3 _ _ _ (λ move h. h) two c.step-3.ensures.steps in
    let four = steps_then _ _ First3 (OnlyMove W) First4 _ _ _ (λ move h. h) three c.step-4.ensures.steps in
    let five = steps_then _ _ First4 (OnlyMove NE) First5 _ _ _ (λ move h. h) four c.step-5.ensures.steps in
    let six = steps_then _ _ First5 (OnlyMove SE) First6 _ _ _ (λ move h. h) five c.step-6.ensures.steps in
    let seven = steps_then _ _ First6 (OnlyMove SW) First7 _ _ _ (λ move h. h) six c.step-7.ensures.steps in
    steps_then _ _ First7 (OnlyMove NW) EveryMove _ _ _ every_move seven c.step-8.ensures.steps
