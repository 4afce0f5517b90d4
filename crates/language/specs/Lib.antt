pub mod Meaning
pub mod Quantified
pub mod Readings
pub mod Steps
pub mod Syntax
pub mod Tables
