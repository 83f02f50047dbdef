pub mod Rows
pub mod Comps
pub mod Pools
pub mod Layout
pub use Rattle.moves.specs.FirstSetLists
