pub mod White
pub mod Bytes
pub mod Facts
