mod Arguments
mod Decimals
mod Letters
