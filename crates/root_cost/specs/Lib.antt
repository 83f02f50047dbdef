pub mod Compared
pub mod Costs
pub mod Lawful
pub mod Laws
pub mod Keys
pub mod Lengths
