-- What contracts cite: arrays, what a call means and forms, its graph and steps, and the laws that it keeps.
-- `pub use`: what callers need of the libraries below.
pub use Rattle.dcx_frac.specs.Fits
pub use Rattle.dcx_frac.specs.Frac
pub mod Arrays
pub mod Formed
pub mod Entrywise
pub mod Signs
pub mod Rows
pub mod Meaning
pub mod Value
pub mod Graph
pub mod Steps
pub mod Laws
pub mod OwnUnknowns
pub mod Fractions
pub mod Duality
pub mod Linear
pub mod Lawful
pub mod Axis
pub mod Bounding
pub mod Farthest
