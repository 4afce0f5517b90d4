pub mod EveryKind
pub mod NumberEight
