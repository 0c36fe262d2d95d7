pub mod NumberLaws
pub mod FieldLaws
pub mod FindLaws
pub mod PartLaws
pub mod PoolLaws
pub mod LayoutLaws
pub mod Shapes
pub mod Readings
