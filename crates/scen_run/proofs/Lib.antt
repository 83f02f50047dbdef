pub mod Answering
pub mod OneResult
pub mod OneReport
pub mod Making
pub mod Querying
pub mod Reporting
