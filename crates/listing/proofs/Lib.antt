pub mod Long
pub mod Told
