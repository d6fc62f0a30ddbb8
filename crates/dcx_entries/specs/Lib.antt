-- What contracts cite: the forms of a node's entries, the parts that they are sums of, and where forming stops.
pub mod Forming
pub mod Entries
pub mod Standing
pub mod Parts
pub mod Sums
pub mod Nodes
pub mod Kept
