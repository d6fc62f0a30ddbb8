-- Lemmas of this crate.
pub mod Writing
