pub mod Results
pub mod Inside
pub mod Reports
pub mod Made
pub mod MadeQueries
