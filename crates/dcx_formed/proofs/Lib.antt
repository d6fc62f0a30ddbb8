-- The lemmas by which formed nodes meet the equations of the reduced program, call by call.
pub mod Lists
pub mod Few
pub mod Reached
pub mod Settled
pub mod Coefs
pub mod PartValues
pub mod Steady
pub mod Tables
pub mod Stood
pub mod Named
pub mod Numbers
pub mod Made
pub mod HaveNumbers
pub mod Sides
pub mod Pairs
pub mod Nodes
pub mod All
pub mod Rows
mod Unknowns
pub mod Entries
mod NarrowNodes
mod Parameters
pub mod NarrowHold
pub mod LawsHold
