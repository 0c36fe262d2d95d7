pub mod Text
pub mod Call
pub mod Values
pub mod Cases
