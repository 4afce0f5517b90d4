pub mod Alike
pub mod Marks
pub mod Parts
pub mod ReadBack
pub mod Signs
pub mod Trials
pub mod Words
