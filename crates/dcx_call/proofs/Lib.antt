-- The lemmas by which calls keep their laws, and what is formed of them is exact.
-- `pub use`: what callers need of the libraries below.
pub use Rattle.dcx_point.proofs.Puts
pub mod Entries
pub mod Products
pub mod CallLaws
pub mod CallValues
pub mod Given
pub mod Fractions
pub mod Coefficients
pub mod Exact
