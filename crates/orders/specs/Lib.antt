pub mod Listing
pub mod Words
pub mod Line
pub mod Order
pub mod Outcome
pub mod Laws
