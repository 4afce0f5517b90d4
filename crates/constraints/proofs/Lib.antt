pub mod Walking
pub mod Found
