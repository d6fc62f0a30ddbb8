-- What contracts cite: the outcomes of settings, fresh, warm, whole, filtered or ranged, and what is right of them.
-- `pub use`: what callers need of the libraries below.
pub use Rattle.dcx_graph.specs.Answers
pub use Rattle.dcx_cache.specs.Counts
pub use Rattle.dcx_cache.specs.Programs
pub mod Outcomes
pub mod Warm
pub mod Right
pub mod Laws
pub mod Asking
pub mod Filters
pub mod FilterLaws
pub mod Wholes
pub mod Ranges
pub mod RangeLaws
pub mod Complete
