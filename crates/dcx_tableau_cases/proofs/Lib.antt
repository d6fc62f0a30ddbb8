-- The lemmas on which unknowns the rows of a file reach to.
pub mod Widths
