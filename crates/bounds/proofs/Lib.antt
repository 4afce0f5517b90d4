pub mod Declared
pub mod Nodes
