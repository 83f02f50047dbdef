pub mod Statuses
pub mod Calls
pub mod Costs
pub mod Live
pub mod Bakes
pub mod Parts
