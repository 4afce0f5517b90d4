pub mod LaidOnce
pub mod Nodes
pub mod OfWalk
pub mod Walks
