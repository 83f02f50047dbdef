pub mod FollowLemmas
pub mod FollowEnds
pub mod LeadLemmas
