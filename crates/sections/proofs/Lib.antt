pub mod Bounds
pub mod Walks
