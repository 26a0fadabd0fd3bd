pub mod RankLemmas
pub mod Keys
