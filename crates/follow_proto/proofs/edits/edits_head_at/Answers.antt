use Rattle.std.proofs.Common.{[], ◌∷◌, ◌++◌, ◌+◌, ◌≡◌, length, drop, refl, sym, replicate, take, arith, ℕ}
use Rattle.std.proofs.lemmas.List.{length-drop, length-take-le}
use Rattle.byteorder.specs.Endian.{big_bytes}
use Rattle.follow_proto.specs.declared.kinds.TheConstants.{EDITS}
use Rattle.follow_proto.proofs.Wholes.{all_of, head_of, edits_whole}
use Rattle.follow_proto.proofs.edits.edits_head_at.Goals as goal

pub returns-clause-head : goal.returns-clause-head
returns-clause-head c =
    let edits = drop c.args.first c.args.edits.now.edits in
    let count : ℕ = c.min-count.result in
    let size : ℕ = c.size_of.result in
    let lead = big_bytes 4 (9 + size) in
    let left = length-drop c.args.first c.args.edits.now.edits in
    let long : length (take count edits) ≡ count = length-take-le count edits (omega (arith, c.min-count.ensures, c.len.ensures, left)) in
    edits_whole c.args.known size count (take count edits) _
    (all_of (head_of (9 + size) EDITS c.args.known count) (replicate 13 0) _ _ (omega arith)
    (c.put_number.ensures.grows ((lead ++ EDITS ∷ []) ++ big_bytes 4 c.args.known) (replicate 13 0)
    (c.put_number-second.ensures.grows (lead ++ EDITS ∷ []) (replicate 13 0)
    (c.put_byte-sort.ensures.grows lead (replicate 13 0) (c.put_number-kind.ensures.grows [] (replicate 13 0) (refl, refl))))))
    c.size_of.ensures.size (sym long)
