pub mod State
pub mod Sound
pub mod Steps
pub mod Ends
pub mod Answers
