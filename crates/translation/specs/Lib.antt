pub mod Results
pub mod Fronts
pub mod Under
