mod CommandLine
mod Flag
