pub mod Groups
pub mod Resolve
pub mod Looks
pub mod Lefts
pub mod Facts
pub mod Keeps
