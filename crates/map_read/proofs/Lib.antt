pub mod SideLemmas
pub mod RowLemmas
pub mod MapLemmas
pub mod WritingLemmas
pub mod CanonicalLemmas
pub mod AcceptedLemmas
pub mod RefusedLemmas
