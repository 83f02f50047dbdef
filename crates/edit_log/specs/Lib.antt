pub mod Padding
pub mod Edits
pub mod EditLists
pub mod Verdicts
pub mod EditLaws
