pub mod Alike
pub mod Below
pub mod Laid
