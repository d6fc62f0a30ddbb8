-- The lemmas by which numbers, fractions and points are read back from their lines.
pub mod Digits
pub mod FracText
pub mod Numbered
pub mod Pairs
pub mod Reading
pub mod Worth
pub mod Runs
pub mod Written
pub mod Entries
