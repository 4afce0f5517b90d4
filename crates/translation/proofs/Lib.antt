pub mod Copies
pub mod Numbers
pub mod Outcomes
pub mod Wholes
