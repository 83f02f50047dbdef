pub mod Baking
