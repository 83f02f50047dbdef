pub mod Walks
pub mod Faults
pub mod Following
pub mod Offers
pub mod Joining
pub mod Marking
pub mod Checking
pub use Rattle.row_store.specs.Rows
