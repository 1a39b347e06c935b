pub mod Causes
pub mod Visits
pub mod Registry
pub mod Entries
pub mod Entered
pub mod Filled
