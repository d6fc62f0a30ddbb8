-- The lemmas on layouts and on unknowns of points, and those by which forms that meet the equations are one.
-- `pub use`: what callers need of the libraries below.
pub use Rattle.dcx_call.proofs.Products
pub mod Places
pub mod Sources
pub mod Owners
pub mod Points
pub mod Domains
pub mod Layouts
pub mod Lists
pub mod Constants
pub mod CallEntries
pub mod CallGraphs
pub mod OfKinds
pub mod Lift
pub mod Variables
pub mod NodeForms
pub mod Sound
pub mod Lifted
pub mod Formed
pub mod EquationsHold
pub mod LawsHold
