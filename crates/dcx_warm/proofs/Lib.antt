-- The lemmas by which a warm run has one end, from which the optimal answer is read.
pub mod Pivoting
pub mod Installing
pub mod Ratios
pub mod Entries
pub mod Repairing
pub mod Costs
pub mod Listed
pub mod Ending
