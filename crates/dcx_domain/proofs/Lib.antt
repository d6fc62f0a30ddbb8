-- The lemmas by which entries and variables keep what is demanded, so that a point is in the domain.
pub mod Comparisons
pub mod Entries
pub mod Points
pub mod Variables
