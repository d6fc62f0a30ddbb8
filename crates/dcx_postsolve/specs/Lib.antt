-- What contracts cite: the numbers of unknowns, points and multipliers that are read from an answer's columns and rows.
-- `pub use`: what callers need of the libraries below.
pub use Rattle.dcx_right.specs.Answers
pub use Rattle.dcx_right.specs.Fixed
pub mod Numbers
pub mod Points
pub mod Duals
pub mod Programs
pub mod CarryingLaws
pub mod Laws
