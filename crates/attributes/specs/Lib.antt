pub mod Attributes
pub mod Values
pub mod Cases
