mod Beyond
mod Differing
mod Found
pub mod Looked
mod Mapped
mod Restoring
mod Runs
mod Counts
mod Following
mod Freeing
mod Marking
mod Owning
mod Steps
mod Surveys
mod Paging
mod Joining
mod Turning
