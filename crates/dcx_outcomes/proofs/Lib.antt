-- The lemmas by which the outcomes of settings are right, and one list.
-- `pub use`: what callers need of the libraries below.
pub use Rattle.dcx_cache.proofs.Counting
pub mod Named
pub mod Placed
pub mod Same
pub mod Right
pub mod OneOutcome
pub mod More
pub mod Warm
pub mod Complete
pub mod Zips
pub mod Asked
pub mod FilterEnds
pub mod WholeEnds
pub mod RangeEnds
pub mod Finds
