pub mod ListingLemmas
pub mod WordLemmas
pub mod LineLemmas
pub mod OrderLemmas
pub mod OutcomeLemmas
pub mod WritingLemmas
