pub mod Json
pub mod Line
pub mod Catalog
pub mod Laws
pub mod Printing
pub mod Sight
pub mod Past
pub mod Meanwhile
