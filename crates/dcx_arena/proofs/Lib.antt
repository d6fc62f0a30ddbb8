-- The lemmas on the chains of the store, on the order and the part that is gathered, and on what nodes stand for.
pub mod Nodes
pub mod Positions
mod Cells
mod Walks
mod Shapes
mod Kept
pub mod Orders
mod Frames
mod Numbers
pub mod Results
mod Parts
pub mod Unfolds
pub mod OneGathering
