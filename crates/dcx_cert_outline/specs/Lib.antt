-- What contracts cite: the outline of a problem.
pub mod Drawn
