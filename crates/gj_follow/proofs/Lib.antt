pub mod FollowLemmas
pub mod KindLemmas
pub mod PageLemmas
pub mod ReadingLemmas
pub mod TreeLemmas
