pub mod Results
pub mod FirstFaults
