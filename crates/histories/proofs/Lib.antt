pub mod AllFound
pub mod SaidSo
pub mod FromCalls
pub mod Demand2
pub mod Demand3
pub mod Promised
