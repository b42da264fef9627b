mod Locking
mod Counting
mod Seeing
