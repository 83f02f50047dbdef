pub mod Images
pub mod Reading
pub mod Faults
pub mod Answers
pub mod Walks
pub mod Strides
pub mod Writing
pub mod Examples
