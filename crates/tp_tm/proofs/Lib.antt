pub mod Used
pub mod Free
pub mod Standing
pub mod Releasing
pub mod Sharing
pub mod Keeping
pub mod Counting
