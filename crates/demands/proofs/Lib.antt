pub mod Demands
pub mod EveryNode
pub mod Outcomes
pub mod TotalTable
pub mod Useless
pub mod Verdicts
