pub mod Sweeps
pub mod Sizes
pub mod Stops
pub mod Laws
pub mod Steps
pub mod Turns
pub mod Areas
pub mod Recording
