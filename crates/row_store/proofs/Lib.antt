pub mod Spans
pub mod Numbers
pub mod RowLaws
pub mod CompLaws
