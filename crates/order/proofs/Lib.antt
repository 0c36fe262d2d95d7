pub mod Sorting
pub mod Insertions
pub mod Library
pub mod Halves
pub mod OrderLaws
pub mod RankLaws
pub mod Definitions
