-- The lemmas on arguments, declarations, differences and ranges, and on the steps of a call.
pub mod ArgumentsSeen
pub mod Declares
pub mod Differences
pub mod Ranges
pub mod Steps
pub mod Told
