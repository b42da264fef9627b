pub mod Members
pub mod Standing
pub mod Ranges
mod Naming
pub mod Reachable
pub mod Counted
pub mod Opened
pub mod Metadata
pub mod Ruled
pub mod Trees
pub mod Bounded
mod Clearing
mod Placed
mod Rebuilding
mod Soundness
