mod Asked
mod Telling
