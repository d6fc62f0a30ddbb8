-- What contracts cite: the unknowns of variables, the layout, and the equations of a reduced program.
-- `pub use`: what callers need of the libraries below.
pub use Rattle.dcx_call.specs.Atoms
pub use Rattle.dcx_call.specs.Linears
pub use Rattle.dcx_call.specs.Values
pub use Rattle.dcx_call.specs.declared.call
pub use Rattle.dcx_convex.specs.Rules
pub use Rattle.dcx_tree.specs.Meaning
pub use Rattle.dcx_tree.specs.Nodes
pub use Rattle.dcx_tree.specs.Problems
pub use Rattle.dcx_tree.specs.declared.problem
pub mod Own
pub mod Unknowns
pub mod Layout
pub mod Equations
pub mod EquationLaws
pub mod Laws
