pub mod OfCheck
pub mod OfEvaluate
pub mod OfExports
pub mod OfList
pub mod OfTranslate
