pub mod Holding
pub mod Rows
pub mod Totals
