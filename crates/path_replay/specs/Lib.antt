pub mod Events
pub mod KeptEvents
pub mod Texts
pub mod Replays
pub mod Inside
