pub mod Slots
pub mod List
pub mod Standing
pub mod One
