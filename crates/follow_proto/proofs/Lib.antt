pub mod Wholes
pub mod Several
