pub mod Capped
pub mod Kept
pub mod Shapes
