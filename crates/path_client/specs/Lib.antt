pub mod Taking
pub mod Asking
