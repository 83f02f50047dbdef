pub mod Answering
pub mod RunEnds
pub mod Spoken
