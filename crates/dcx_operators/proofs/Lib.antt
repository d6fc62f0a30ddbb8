-- The lemmas on what indices and slices pick, also with their numbers brought into 64 bits.
pub mod NearestSlices
pub mod NearestPicks
pub mod Indexed
pub mod Picked
