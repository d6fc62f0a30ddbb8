-- The lemmas on puts, on the names of pairs, and on pairs that are copied.
pub mod Puts
pub mod Names
pub mod Copied
