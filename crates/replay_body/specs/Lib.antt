pub mod Bodies
pub mod Calls
pub mod Areas
