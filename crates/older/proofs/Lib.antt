pub mod OneWorld
pub mod NoGroups
