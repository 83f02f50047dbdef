pub mod Stepping
pub mod Following
pub mod Measuring
