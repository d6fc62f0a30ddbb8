-- The lemmas on the tests' own calls: half of 1.
pub mod Halves
