pub mod Boards
pub mod Connecting
pub mod Sourcing
pub mod Filling
