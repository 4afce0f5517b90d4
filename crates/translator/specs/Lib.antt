pub mod Cells
pub mod Plans
pub mod Words
