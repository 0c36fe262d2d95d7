pub mod Order
pub mod Ordered
pub mod References
pub mod Precedes
pub mod ByDefinitions
