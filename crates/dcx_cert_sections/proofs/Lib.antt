-- The lemmas by which checks in order tell one thing where each of them does, and what they come to.
pub mod Settled
pub mod Turns
