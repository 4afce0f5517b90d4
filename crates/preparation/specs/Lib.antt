pub mod PlacedOnce
pub mod Prepared
