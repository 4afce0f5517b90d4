pub mod Results
pub mod Given
