pub mod Telling
pub mod Placing
pub mod Turning
pub mod Hearing
pub mod Taking
mod Idling
pub mod Whole
mod Sharing
pub mod Tracing
pub mod Pairing
pub mod Streaming
pub mod Desking
pub mod Carrying
mod Least
mod Asking
mod Flushing
mod Ending
mod Ordering
pub mod Living
mod Covering
mod Wrote
mod Remaining
mod Through
mod Fronts
pub mod Owing
pub mod Staging
