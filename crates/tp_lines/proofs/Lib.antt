pub mod Bytes
pub mod Controlling
pub mod Deleting
mod Digits
pub mod Doing
pub mod Piping
pub mod Playing
mod Paging
mod Splitting
pub mod Telling
