pub mod Names
pub mod Parens
pub mod Joined
pub mod Parts
