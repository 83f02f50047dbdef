pub mod LinesRead
pub mod KeptEvents
pub mod ChangesRead
pub mod Holdings
pub mod Looking
pub mod Replaying
pub mod Telling
pub mod Saying
