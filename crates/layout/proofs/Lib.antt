pub mod Checked
pub mod Order
pub mod Runs
pub mod Tables
pub mod Walked
