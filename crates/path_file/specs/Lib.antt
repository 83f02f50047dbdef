pub mod Files
pub mod Texts
pub mod Fields
pub mod Faults
pub mod Laws
pub mod Readings
pub mod Puttings
