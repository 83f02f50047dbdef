use Rattle.std.proofs.Common.{◌≡◌, ℕ, Result, Ok, Err, subst}
use Rattle.std.specs.Prelude.{MatchResult}
use Rattle.map_read.specs.declared.fault.MapFault.{MapFault}
use Rattle.map_read.specs.MapText.{sides_given, sides_from}
use Rattle.map_read.proofs.SideLemmas.{sides_capped}
use Rattle.map_read.proofs.header.sides_from.Goals as goal

pub returns-clause-sides : goal.returns-clause-sides
returns-clause-sides c =
    let same : sides_given c.number_named.result c.number_named-2.result c.number_named-3.result c.number_named-4.result ≡ sides_from c.args.second.now c.args.third.now =
    rw (c.number_named.ensures, c.number_named-2.ensures, c.number_named-3.ensures, c.number_named-4.ensures, c.as_slice-height.ensures, c.as_slice-width.ensures) (sides_capped _ _ _ _) in
    subst (λ (r : Result (ℕ × ℕ) MapFault). MatchResult c.sides_given.result (λ sides. r ≡ Ok (sides.width, sides.height)) (λ fault. r ≡ Err fault)) same c.sides_given.ensures.sides
