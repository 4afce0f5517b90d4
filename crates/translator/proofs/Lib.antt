pub mod Cells
pub mod Compiled
pub mod Moved
pub mod Planned
pub mod Ruled
pub mod States
pub mod Stores
