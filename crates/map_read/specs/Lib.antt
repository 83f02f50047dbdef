pub mod MapText
pub mod Accepted
pub mod Refused
pub mod Faults
pub mod Inside
