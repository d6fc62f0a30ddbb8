-- The lemmas of which nodes have a variable below them, and of the rows of atoms.
pub mod Nodes
pub mod Rows
