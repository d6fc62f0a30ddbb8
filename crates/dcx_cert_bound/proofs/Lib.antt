-- The lemmas by which the bound checks tell one thing, and show a bound where they pass.
pub mod OneTable
pub mod Settled
pub mod Falling
pub mod EachEntry
pub mod Reaching
pub mod Sides
pub mod Shown
pub mod Indexing
pub mod ByName
pub mod OtherWeights
pub mod ByNode
pub mod Stepping
pub mod Making
