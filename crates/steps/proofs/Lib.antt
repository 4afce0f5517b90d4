pub mod Caps
pub mod Constraints
pub mod Nodes
pub mod Shapes
pub mod Slots
