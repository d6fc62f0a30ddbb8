-- The lemmas by which shapes, slices, indices and formed entries are what the relations say.
pub mod Answered
pub mod Equals
pub mod AllowedShapes
pub mod Broadcasts
pub mod FormedEntries
pub mod GivenArrays
pub mod PairSums
pub mod Slices
pub mod PickedPlaces
pub mod Indices
pub mod ExactNumbers
