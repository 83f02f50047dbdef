pub mod Blocking
pub mod Free
pub mod Along
pub mod Refusing
pub mod Onward
