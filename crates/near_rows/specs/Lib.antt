pub mod Compass
pub mod NearRows
pub mod NearVersions
pub mod NearPaths
pub mod NearWalks
pub mod Building
pub mod Lanes
pub mod Gathering
