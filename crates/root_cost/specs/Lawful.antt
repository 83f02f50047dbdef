-- Proofs, not definitions, that the cost order is lawful. The `impl`s of `Ord` and `PartialOrd` name them, and an
-- `impl` can name only what is in specs/.
pub mod Squares
pub mod Order
pub mod Comparing
