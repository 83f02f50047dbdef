pub mod Feeds
pub mod Feeding
pub mod Sending
pub mod Asking
pub mod Looking
pub mod Turns
pub mod Examples
