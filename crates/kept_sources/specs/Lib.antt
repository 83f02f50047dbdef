pub mod Parts
pub mod Balls
pub mod Gates
pub mod Splits
pub mod Examples
