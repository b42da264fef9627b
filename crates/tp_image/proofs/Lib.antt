pub mod AreaLaws
mod FaultExamples
pub mod FreshImage
mod SharedRoot
pub mod Uniqueness
