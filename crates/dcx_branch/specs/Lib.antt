-- What contracts cite: boxes, the rows and the leaves of nodes, the run of nodes, and what it answers.
pub mod Between
pub mod Unknowns
pub mod Places
pub mod Rows
pub mod Sides
pub mod Leaves
pub mod Nodes
pub mod Run
pub mod Answers
pub mod Taken
pub mod Searches
