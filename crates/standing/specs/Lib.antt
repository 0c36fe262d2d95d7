pub mod GroupRecords
pub mod Standings
pub mod Stands
pub mod Swept
