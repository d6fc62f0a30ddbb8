-- What contracts cite: nodes and problems of a tree, gathering, values and expressions, and the laws.
pub mod Nodes
pub mod Kept
pub mod Problems
pub mod Gather
pub mod Meaning
pub mod Values
pub mod Expressions
pub mod Laws
