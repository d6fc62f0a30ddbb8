-- The lemmas on broadcasting, slices, indices and reshapes, and on entries and their places.
pub mod Broadcasts
pub mod Entries
pub mod Reshapes
pub mod Permutations
pub mod Pushes
pub mod Slices
pub mod Faults
pub mod Indices
pub mod SliceLaws
pub mod IndexLaws
pub mod EntryPlaces
pub mod OneShape
