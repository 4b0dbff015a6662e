pub mod AskedLemmas
pub mod FollowLemmas
pub mod ReplayLemmas
pub mod ServeLemmas
