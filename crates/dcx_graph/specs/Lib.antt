-- What contracts cite: the program of a problem, reduced programs, and answers of the rows as answers of the problem.
-- `pub use`: what callers need of the libraries below.
pub use Rattle.dcx_formed.specs.Forms
pub use Rattle.dcx_formed.specs.Within
pub use Rattle.dcx_postsolve.specs.Duals
pub use Rattle.dcx_postsolve.specs.Points
pub use Rattle.dcx_postsolve.specs.Programs
pub mod Program
pub mod Reduced
pub mod Stops
pub mod Fixing
pub mod Marks
pub mod AsLinear
pub mod Reducing
pub mod Backward
pub mod Fixed
pub mod Answers
pub mod Correct
