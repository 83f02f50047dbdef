pub mod Edits
pub mod Parts
pub mod Rooms
