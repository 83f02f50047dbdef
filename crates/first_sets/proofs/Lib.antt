pub mod Standing
pub mod Passing
pub mod Keeping
pub mod Clearing
pub mod Beginning
pub mod Filling
pub mod Besides
pub mod Bridging
