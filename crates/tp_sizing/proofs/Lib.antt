mod Blocks
mod Determined
mod Fitting
mod Room
mod Sized
