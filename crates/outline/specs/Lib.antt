pub mod Outline
pub mod Seen
