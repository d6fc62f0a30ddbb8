-- What the laws cite: calls, nodes, the rules, problems, answers, reductions, certificates and examples.
pub mod Calls
pub mod Atoms
pub mod Pairs
pub mod Nodes
pub mod Rules
pub mod Problems
pub mod Answers
pub mod Reductions
pub mod Certificates
pub mod Laws
pub mod Examples
