-- What contracts cite: commands, files, runs with their causes, how they end, and which are right; and what the functions on the way give.
-- `pub use`: what callers need of the libraries below.
pub use Rattle.dcx_cert_runs.specs.Sections
pub use Rattle.dcx_cert_runs.specs.Checking
pub use Rattle.dcx_cert_runs.specs.Migrating
pub mod Commands
pub mod Files
pub mod Reading
pub mod Whole
pub mod NoRange
pub mod Asked
pub mod Runs
pub mod Solving
pub mod Certifying
pub mod Headline
pub mod OneRun
pub mod Migrated
pub mod Verdicts
pub mod Ended
pub mod SameReport
