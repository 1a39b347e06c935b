pub mod Refusal
pub mod OnFile
pub mod Cause
