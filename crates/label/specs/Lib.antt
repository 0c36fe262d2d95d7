pub mod Labels
pub mod Areas
pub mod Pieces
pub mod Cases
