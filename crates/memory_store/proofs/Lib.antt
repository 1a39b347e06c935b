pub mod MapsDone
pub mod MapsPlaces
pub mod MapsCounts
pub mod MapsSeen
mod Outlined
