-- The lemmas on values that are formed once and kept, and on divisors that are tested.
pub mod Known
pub mod Settling
pub mod Keeping
pub mod Marking
pub mod Fixed
pub mod Nonzero
pub mod Comparing
pub mod Weaker
pub mod Dividing
pub mod Anywhere
pub mod Left
