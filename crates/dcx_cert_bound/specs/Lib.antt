-- What contracts cite: weights by node, what reaches the variables, and the bound checks.
pub mod Refusal
pub mod Fixed
pub mod Weights
pub mod Collecting
pub mod Variables
pub mod Checks
pub mod Laws
