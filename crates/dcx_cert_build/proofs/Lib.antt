-- The lemmas by which the certificate that is built is of its problem, one, and has the multipliers as weights.
pub mod Copied
pub mod Formed
pub mod Counts
pub mod Fixed
pub mod Listed
pub mod Shown
pub mod OfProblem
pub mod OneCert
pub mod Laid
