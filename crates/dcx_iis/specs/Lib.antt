-- What contracts cite: the steps of the filter, and what it finds.
pub mod Steps
pub mod Multipliers
pub mod Found
pub mod Laws
pub mod Runs
