mod Answered
mod Inner
mod Looking
mod Parts
