pub mod InMemory
pub mod NestedMaps
