pub mod Histories
pub mod Rule
pub mod Steps
pub mod Turns
pub mod Books
pub mod Gathered
pub mod Lends
