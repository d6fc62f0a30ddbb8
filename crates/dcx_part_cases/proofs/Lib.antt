-- The lemmas on which unknowns the rows of a case reach to.
pub mod Widths
