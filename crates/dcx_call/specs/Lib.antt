-- What contracts cite: attributes, the calls and their buckets, their values as they are formed, and the laws.
-- `pub use`: what callers need of the libraries below.
pub use Rattle.dcx_affine.specs.Pairing as AffinePairing
pub use Rattle.dcx_affine.specs.declared.pairing
pub use Rattle.dcx_point.specs.Pairs
pub mod Attributes
pub mod Atoms
pub mod Linears
pub mod Calls
pub mod Buckets
pub mod Forming
pub mod Values
pub mod Exact
pub mod Laws
