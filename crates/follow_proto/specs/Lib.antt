pub mod Feeds
pub mod Examples
