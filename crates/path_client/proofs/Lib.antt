pub mod Pieces
pub mod Numbered
pub mod Hearings
pub mod Questions
