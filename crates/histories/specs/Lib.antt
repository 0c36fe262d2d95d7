pub mod Said
pub mod EveryGroup
pub mod Histories
pub mod Promises
