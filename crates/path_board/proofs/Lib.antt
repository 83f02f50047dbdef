pub mod Listing
pub mod Holdings
pub mod Answering
pub mod Dealt
pub mod Closing
pub mod Keeping
pub mod Same
pub mod Pairs
