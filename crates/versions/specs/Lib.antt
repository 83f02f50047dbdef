pub mod Spelled
pub mod Databases
pub mod Queries
pub mod Answers
pub mod Stored
pub mod Counts
pub mod OneRow
pub mod FewestRuns
