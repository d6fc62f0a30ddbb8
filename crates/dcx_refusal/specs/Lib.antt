-- What contracts cite: the refusals with their numbers and names, and how they are made.
pub mod Refusals
pub mod Made
