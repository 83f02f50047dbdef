use Rattle.std.proofs.Common.{◌≡◌, ◌+◌, ◌%◌, subst, arith, get_or}
use Rattle.first_sets.proofs.Besides.{beside_legal, beside_otherwise}
use Rattle.first_sets.proofs.neighbour_sets.Around.place_beside.Goals as goal

pub returns-clause-legal : goal.returns-clause-legal
returns-clause-legal c = λ by to same has next low.
    let distances = c.args.self.now.distances in
    let there = subst (λ n. (c.args.place + get_or distances n 0) % 18446744073709551616 ≡ to) same (c.args.self.now.right by c.args.place to low next) in
    beside_legal c.args.legal c.args.number c.args.place (get_or distances c.args.number 0) c.from-bit.result to by c.from-bit.ensures same has there

pub returns-clause-otherwise : goal.returns-clause-otherwise
returns-clause-otherwise c = λ by same none.
    beside_otherwise c.args.legal c.args.number c.args.place
    (get_or c.args.self.now.distances c.args.number 0) c.from-bit.result by c.from-bit.ensures same none (omega arith)
