-- The lemmas by which linked cells keep the numbers of a matrix.
pub mod Lines
pub mod Numbers
pub mod Stores
pub mod Inserts
pub mod Free
pub mod Removes
pub mod Empty
pub mod Chains
pub mod Changes
pub mod Listed
pub mod Matrices
pub mod Steps
pub mod Passes
pub mod Rewrites
pub mod Kept
