pub mod Framing
pub mod Message
pub mod Length
pub mod Never
pub mod Pieces
pub mod Values
pub mod HeadFront
