pub mod Searches
pub mod Keys
pub mod Kept
pub mod Settling
pub mod Queues
pub mod Scanning
pub mod Forgetting
