pub mod Answers
pub mod KeyBytes
pub mod Bound
pub mod Whole
pub mod Enough
