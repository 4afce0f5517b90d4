pub mod Soundness
pub mod Numbers
