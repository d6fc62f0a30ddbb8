-- What contracts cite: the number and the parts of a fraction, what fits and is formed, its text.
pub mod Fits
pub mod Frac
pub mod Formed
pub mod Results
pub mod Text
