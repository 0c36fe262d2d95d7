pub mod Joins
pub mod Decimals
pub mod WriteLaws
pub mod LabelLaws
pub mod AreaLaws
