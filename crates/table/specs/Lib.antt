pub mod KindNumbers
pub mod Kinds
pub mod Marks
pub mod Parts
pub mod Records
