pub mod Marks
pub mod Floods
pub mod Groups
pub mod Edits
pub use Rattle.moves.specs.Components
