pub mod Asked
pub mod Examples
pub mod Room
pub mod Slots
pub mod Tests
