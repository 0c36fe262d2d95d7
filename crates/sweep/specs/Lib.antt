pub mod Sweep
pub mod Stops
pub mod Steps
pub mod Facts
pub mod Areas
pub mod Recording
