pub mod Reading
pub mod Following
pub mod Hearing
pub mod Streams
pub mod Stages
pub mod Links
pub mod StreamLaws
pub mod Agreement
