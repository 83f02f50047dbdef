pub mod LegalHistories
pub mod Growing
pub mod Bounds
pub mod KeptEntries
pub mod BoardSteps
pub mod BlankBoards
pub mod Passing
