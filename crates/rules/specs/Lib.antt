pub mod Bounds
pub mod Formulas
pub mod Rules
pub mod Soundness
pub mod TotalRows
pub mod Writing
