pub mod Plans
pub mod Builders
pub mod Edited
