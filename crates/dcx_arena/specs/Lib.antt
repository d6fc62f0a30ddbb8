-- What contracts cite: nodes, how the store keeps and gathers them, what they stand for, and the laws.
pub mod Nodes
pub mod Chains
pub mod Gather
pub mod Walk
pub mod Unfold
pub mod Laws
