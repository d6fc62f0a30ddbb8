-- The lemmas on tests of the first bytes of a text.
pub mod Begins
