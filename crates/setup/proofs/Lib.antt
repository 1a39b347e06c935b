pub mod Texts
pub mod OpenLemmas
pub mod PartLemmas
pub mod FilledLemmas
pub mod BlankLemmas
pub mod PutLemmas
