pub mod Padded
pub mod Cutting
pub mod EditedMaps
pub mod EditVerdicts
