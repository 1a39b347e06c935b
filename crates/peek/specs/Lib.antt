pub mod Edits
pub mod Peek
