pub mod SubsetLemmas
pub mod HoldLemmas
pub mod RowLemmas
