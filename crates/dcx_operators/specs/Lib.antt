-- Operators, indices and attributes on values of any kind.
pub mod Operators
pub mod Indices
pub mod Attributes
pub mod View
