pub mod EndsLemmas
pub mod RankLemmas
pub mod LawLemmas
