-- Worked scripts, laws of the meaning, and what the code carries from turn to turn.
pub mod Seen
pub mod Layers
pub mod Parts
pub mod Chains
pub mod Loops
pub mod Calling
pub mod Signs
pub mod Names
pub mod Lines
pub mod Alone
mod Samples
mod Rows
pub mod Turned
