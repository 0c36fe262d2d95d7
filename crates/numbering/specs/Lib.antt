pub mod Numbers
pub mod Progress
pub mod Wide
