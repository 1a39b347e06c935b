pub mod MeanwhileLemmas
pub mod NotedLemmas
pub mod NamedLemmas
