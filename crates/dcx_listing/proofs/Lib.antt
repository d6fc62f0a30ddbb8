-- The lemma by which what a program with affine coefficients lists has arrays.
pub mod Maps
