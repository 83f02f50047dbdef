pub mod Live
pub mod Laws
pub mod Told
pub mod Telling
