-- What contracts cite: the pass from the last node down, what each call hands on, and what the total bounds.
pub mod Shares
pub mod Starts
pub mod Calls
pub mod Pass
pub mod Multipliers
pub mod Laws
