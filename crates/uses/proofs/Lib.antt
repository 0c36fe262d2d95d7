pub mod UseLaws
pub mod Fields
