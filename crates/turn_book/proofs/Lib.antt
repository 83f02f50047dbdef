pub mod Lists
pub mod Views
pub mod Keeps
pub mod Joining
pub mod Dealing
pub mod Ending
