-- The proofs of the laws on names, nodes, prints and differences, by what each form of a script keeps.
pub mod Renamed
mod Prints
pub mod Carried
pub mod CarriedNodes
pub mod CarriedCalls
pub mod CarriedForms
pub mod CarriedLines
pub mod Unbound
mod Bound
pub mod Pushed
mod ByNodes
mod There
pub mod Treed
mod Negatives
pub mod Standing
mod Summed
mod Differences
mod Numbered
