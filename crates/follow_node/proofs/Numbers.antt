-- Numbers in front of other bytes.
use Rattle.std.proofs.Common.{◌≡◌, ℕ, ◌^◌, ◌<◌, List, ◌++◌, drop, sym, ap, ◌∙◌}
use Rattle.byteorder.specs.Endian.{big_bytes, big_from}
use Rattle.byteorder.specs.Numbers.{big_number-reads_back}

-- where the bytes are the same the numbers are, and what is behind them
pub same_number : (a b : ℕ) (r s : List ℕ) → a < 2 ^ 32 → b < 2 ^ 32 → big_bytes 4 a ++ r ≡ big_bytes 4 b ++ s → (a ≡ b) × (r ≡ s)
same_number a b r s low least e = (
  sym (big_number-reads_back 4 a r low) ∙ ap (big_from 0 4) e ∙ big_number-reads_back 4 b s least,
  ap (drop 4) e,
)
