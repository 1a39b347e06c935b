pub mod Reply
pub mod Info
pub mod ModuleVersion
pub mod Route
pub mod Resource
pub mod Target
