pub mod Integers
pub mod Sums
pub mod Truths
pub mod Values
