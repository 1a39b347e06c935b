pub mod Asks
pub mod Run
