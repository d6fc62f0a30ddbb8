-- The lemmas by which a problem is reduced in one way, and answers of its rows are answers of it.
-- `pub use`: what callers need of the libraries below.
pub use Rattle.dcx_formed.proofs.Coefs
pub use Rattle.dcx_formed.proofs.Lists as FormedLists
pub use Rattle.dcx_formed.proofs.Numbers
pub use Rattle.dcx_formed.proofs.Reached
pub use Rattle.dcx_formed.proofs.Settled
pub use Rattle.dcx_formed.proofs.Steady
pub use Rattle.dcx_formed.proofs.Tables
pub use Rattle.dcx_postsolve.proofs.Lists
pub mod Told
pub mod Sides
pub mod RowsFormed
pub mod Settings
pub mod Entries
pub mod Programs
pub mod Sizes
pub mod OneProgram
pub mod Counted
pub mod AsLinear
pub mod Marked
pub mod Widths
pub mod Given
pub mod Stages
pub mod Backward
pub mod AtSetting
pub mod Known
pub mod Stopping
pub mod Slacks
pub mod Mapped
pub mod Correct
pub mod OneReduction
pub mod OneReading
pub mod OneWay
