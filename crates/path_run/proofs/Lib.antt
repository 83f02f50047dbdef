pub mod RunLemmas
pub mod FirstVersions
