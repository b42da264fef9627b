pub mod Users
pub mod First
pub mod Left
pub mod Lives
pub mod Lived
pub mod Walked
pub mod Through
