pub mod Ran
pub mod MigrateLemmas
pub mod CopyLemmas
pub mod Parts
pub mod Written
pub mod Idle
pub mod FirstLine
pub mod Causes
