-- The meaning of scripts: of expressions, of lines and their turns, and of a whole script, with its laws.
-- `pub use`: what callers need of the libraries below.
pub use Rattle.dcx_script_state.specs.Ends
pub mod Turns
pub mod Expressions
pub mod Statements
pub mod Meaning
pub mod Laws
pub mod View
