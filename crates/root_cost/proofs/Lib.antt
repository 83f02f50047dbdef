pub mod Adding
pub mod Keys
pub mod Lawful
pub mod Micro
pub mod Order
pub mod Squares
