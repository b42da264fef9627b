pub mod Agreeing
pub mod Plain
pub mod Outside
pub mod Given
pub mod Unchanged
mod Conversation
mod Stopped
mod OnCaches
mod OnDisk
mod Costs
mod Parting
mod Removals
mod Recovering
mod Blanks
mod Growth
mod Copies
mod Freeing
mod Leading
mod Walks
mod Joining
