-- What contracts on kept values cite: forming values of nodes, marks, tables, and checks that form them.
-- `pub use`: what callers need of the libraries below.
pub use Rattle.dcx_right.specs.Answers
pub mod Forming
pub mod Tables
pub mod Marks
pub mod Broken
pub mod Laws
