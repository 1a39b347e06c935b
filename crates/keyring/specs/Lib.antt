pub mod Named
pub mod Reading
pub mod KeyList
pub mod ShelfList
pub mod Revoke
pub mod Made
