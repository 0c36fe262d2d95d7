pub mod ItemSizes
pub mod Lines
pub mod Swept
