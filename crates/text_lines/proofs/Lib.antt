pub mod Pieces
pub mod LineLemmas
pub mod WordLemmas
pub mod WordTests
pub mod NumberLemmas
pub mod JudgingLemmas
