-- What contracts cite: where names stand, and the variables that are to be whole.
pub mod Stands
pub mod Whole
