pub mod Currents
pub mod Holding
pub mod Picking
pub mod Picks
pub mod Replays
pub mod Unclaimed
pub mod Settling
pub mod Stopping
pub mod Walks
mod Blanks
