-- The lemmas by which a session's certificates show its answers, and sections pass or are refused in one way.
-- `pub use`: what callers need of the libraries below.
pub use Rattle.dcx_cert_check.proofs.Shows
pub mod Built
pub mod Lists
pub mod Shown
pub mod OneCertificate
pub mod OneRefusal
pub mod Migrated
