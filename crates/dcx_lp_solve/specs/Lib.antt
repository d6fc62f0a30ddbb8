-- What contracts cite: what rows that are solved have, by Bland's rule or by a warm run, and what stops them.
pub mod Solved
pub mod Warm
pub mod Right
pub mod Stops
pub mod OneSolution
