pub mod ArrayWalk
pub mod ElementTests
