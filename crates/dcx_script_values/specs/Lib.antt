-- The values of a script, what is carried along while it is carried out, and how nodes come to the tree.
-- `pub use`: what callers need of the libraries below.
pub use Rattle.dcx_call.specs.declared.call
pub mod Faults
pub mod Values
pub mod Codes
pub mod Meant
pub mod Falls
pub mod Same
pub mod Nodes
pub mod Kinds
pub mod Operands
pub mod View
pub mod Ranges
