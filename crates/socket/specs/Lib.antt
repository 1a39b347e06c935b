pub mod Connections
pub mod History
pub mod Listening
pub mod Pace
pub mod Rest
pub mod Serving
