pub mod Listing
pub mod Ready
