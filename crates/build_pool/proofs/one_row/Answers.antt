use Rattle.std.proofs.Common.{◌≡◌, length, ◌∙◌, arith}
use Rattle.std.proofs.lemmas.List.{take_at}
use Rattle.build_pool.proofs.Connecting.{packable}
use Rattle.build_pool.proofs.one_row.Goals as goal

pub pack-requires : goal.pack-requires
pack-requires c =
    let first = c.write_sets.ensures.bytes in
    let size : length c.write_sets.new.bytes ≡ c.in_ok-bytes.bytes.len = omega (arith, first.whole, c.in_ok-bytes.ensures.len) in
    let back : c.deref.result.now ≡ c.write_sets.new.bytes = c.deref.ensures.value ∙ take_at c.write_sets.new.bytes _ _ size in
    rw back (packable _ _ c.requires.component _ _ c.requires.place c.requires.few first)
