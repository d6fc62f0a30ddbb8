-- What the laws cite: how tokens are spelled, texts cut into them, lines, and what a fault says.
pub mod Words
pub mod Cut
pub mod Lines
pub mod OneList
pub mod Fine
pub mod Faults
