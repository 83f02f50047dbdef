pub mod Existing
pub mod Walks
