pub mod Results
pub mod Admissions
