-- The lemmas by which settings are read exactly as they are spelled, and a file has one answer.
pub mod Facts
pub mod Soundness
pub mod Completeness
pub mod Viability
pub mod Numbers
pub mod Rows
pub mod Matrices
pub mod Values
pub mod Whole
pub mod Lines
pub mod OneReading
pub mod Files
pub mod OneAnswer
pub mod Full
pub mod OneList
