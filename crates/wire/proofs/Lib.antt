pub mod Counting
pub mod Growing
pub mod Inboxes
pub mod Making
pub mod NamedFiles
pub mod Selecting
pub mod Sending
pub mod Watched
