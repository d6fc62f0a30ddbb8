-- The lemmas by which what the filter finds is right and one: the programs of its steps tell which sets are impossible, and multipliers show it.
pub mod Kept
pub mod Telling
pub mod Spread
pub mod Shown
pub mod Flags
pub mod Right
pub mod Ends
pub mod OneFound
pub mod Going
pub mod Finding
pub mod Loops
pub mod Given
