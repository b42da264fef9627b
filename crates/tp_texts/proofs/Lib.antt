mod Telling
mod Listed
mod Back
