-- The lemmas on pushes, declarations, values by name, and the problem that a script asks and solves.
mod Behind
pub mod SameCalls
mod Found
mod Bindings
mod Settings
mod Pushes
mod Grown
mod Reached
pub mod Each
mod Tested
mod Naming
mod Squares
mod Declares
mod Asks
mod Solves
