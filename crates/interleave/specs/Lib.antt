pub mod Interleave
pub mod Noted
