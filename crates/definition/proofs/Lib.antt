pub mod EntryLaws
pub mod LineLaws
pub mod DefinedLaws
