-- The lemmas on what is given for arguments, on items that are gone through, and on numbers of a range.
pub mod Ranges
pub mod ItemsSeen
pub mod BoundSeen
