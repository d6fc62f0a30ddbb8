-- The lemmas by which the pass raises no bound, so that the total bounds the Lagrangian.
pub mod Sharing
pub mod Starting
pub mod Arguments
pub mod Counting
pub mod Handing
pub mod Passing
pub mod Flat
pub mod Bound
pub mod Points
pub mod ArgSides
pub mod Worth
pub mod Bounded
pub mod Multiplied
pub mod Final
pub mod LawsHold
