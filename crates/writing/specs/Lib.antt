pub mod Constraints
pub mod Ends
pub mod Operands
