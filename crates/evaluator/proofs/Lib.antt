pub mod Binding
pub mod Cases
pub mod Declared
pub mod Decoding
pub mod Reading
pub mod Stepping
pub mod Turning
pub mod Walking
