-- The lemmas on numbers, words and bytes, and by which a text has one reading, with its spans and nesting.
pub mod Bytes
pub mod Digits
pub mod Faults
pub mod Fractions
pub mod Fronts
pub mod Kept
pub mod Lengths
pub mod Nesting
pub mod OneReading
pub mod Readings
pub mod Spans
pub mod Texts
mod Words
