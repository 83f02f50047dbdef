pub mod Passing
pub mod Writing
pub mod Backlogs
pub mod Holding
pub mod Sent
pub mod AskBytes
pub mod Fed
