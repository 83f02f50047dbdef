pub mod Baking
pub mod Cells
pub mod Faults
