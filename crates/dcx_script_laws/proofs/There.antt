-- Values have no nodes but those that are there: the lemmas, in the order of what they speak of.
pub mod Parts
pub mod Later
pub mod Nodes
pub mod Calls
pub mod Forms
pub mod Lines
