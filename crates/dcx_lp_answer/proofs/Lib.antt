-- Lemmas on rows, on fractions, and on multipliers that are formed.
pub mod RowSums
pub mod Fractions
pub mod Formed
pub mod Passing
