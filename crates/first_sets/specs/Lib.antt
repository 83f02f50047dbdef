pub mod Filled
pub mod Steps
pub mod Memory
pub mod Places
