mod ExampleSteps
mod NewBlocks
mod Sharing
mod Testing
