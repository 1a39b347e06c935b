pub mod Schemas
pub mod Means
pub mod Laws
