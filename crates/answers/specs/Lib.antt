pub mod Answers
pub mod Check
pub mod Listing
pub mod Sections
