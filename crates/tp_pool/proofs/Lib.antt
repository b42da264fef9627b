mod Answering
mod Calling
mod Checking
mod Create
mod CreateFlushes
mod Creating
mod Fetching
mod Flushing
mod Growing
mod Following
mod Halves
mod InPlace
mod Images
pub mod Lasting
mod Joining
mod Keeping
mod Lives
mod Looping
pub mod Meeting
mod NewBlock
mod NewRun
mod Overwriting
mod Phases
mod Putting
pub mod Ranges
mod Sizes
mod Refusing
mod Rooms
mod Rounds
mod Runs
mod Serving
mod Stops
mod Taken
pub mod Times
pub mod Opened
pub mod Formatted
mod Nexts
mod Statuses
mod Unkeeping
mod Behind
pub mod Begun
mod Exchanging
mod Idling
mod Deleting
mod Unmapping
mod Altering
mod Requesting
mod Discarding
mod Composing
mod Edges
mod Clearing
mod Blanking
mod Refraining
mod Cut
mod Zeroed
mod Cleared
mod Zeroes
pub mod Looking
mod Snapping
mod Reserving
mod Copied
mod Parts
pub mod Pieces
