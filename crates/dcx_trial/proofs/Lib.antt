-- The lemmas by which the script is written point by point.
pub mod Ranges
mod Rows
