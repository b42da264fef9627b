pub mod Store
pub mod Balance
pub mod Reach
pub mod Lower
