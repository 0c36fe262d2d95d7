pub mod Judges
pub mod Laws
pub mod Runs
pub mod AtBracket
pub mod Parts
