pub mod Whites
pub mod Points
