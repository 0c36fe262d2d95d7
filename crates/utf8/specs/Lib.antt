pub mod Utf8
pub mod Encoding
pub mod Refusal
pub mod Cases
pub mod Facts
