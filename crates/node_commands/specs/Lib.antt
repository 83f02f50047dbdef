pub mod Followings
pub mod Leadings
