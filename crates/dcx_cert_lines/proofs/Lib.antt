-- The lemmas by which what is read is what is written, line by line.
pub mod Chain
pub mod Files
pub mod Filled
pub mod Items
pub mod Lists
pub mod Made
pub mod Only
pub mod Slots
pub mod Steps
pub mod Wholes
