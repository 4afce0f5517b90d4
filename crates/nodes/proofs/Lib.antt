pub mod ConstraintTests
pub mod Entered
pub mod NodeStep
pub mod Operands
pub mod SlotSets
pub mod Start
pub mod Turns
