-- The lemmas by which a name stands where it does, and the first variable that is to be whole is found.
pub mod Standing
pub mod Marked
