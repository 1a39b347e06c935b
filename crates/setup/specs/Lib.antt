pub mod Shown
pub mod Opened
pub mod Extracted
pub mod Parts
