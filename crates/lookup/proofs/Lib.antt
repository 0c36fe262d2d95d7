pub mod LooksUp
pub mod Laws
pub mod RefusalLaws
pub mod Halves
