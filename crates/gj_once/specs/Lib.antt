pub mod Judging
pub mod NotedPosts
pub mod OnceLaws
pub mod PostLists
