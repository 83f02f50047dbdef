pub mod Fields
pub mod Inside
pub mod ScenText
pub mod Accepted
pub mod Refused
pub mod Written
pub mod Faults
