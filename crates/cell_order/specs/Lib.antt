pub mod Orders
pub mod Boxes
