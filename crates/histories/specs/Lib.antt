pub mod Account
pub mod Asked
pub mod Calls
pub mod Counted
pub mod End
pub mod Failure
pub mod Stopping
pub mod Timing
