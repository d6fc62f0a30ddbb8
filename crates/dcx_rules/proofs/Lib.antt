-- The lemmas by which the code finds the verdict of the rules, or the first site that breaks one.
pub mod Heads
pub mod Suited
pub mod Nodes
pub mod Accepting
pub mod Reaching
pub mod Truth
pub mod Faults
pub mod Breaches
