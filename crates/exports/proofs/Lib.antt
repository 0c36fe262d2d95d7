mod Laws
pub mod Words
pub mod SourceWords
