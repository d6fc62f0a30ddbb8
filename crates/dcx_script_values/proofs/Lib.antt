-- The lemmas on items and their limits, on forms of lists, rows of numbers, and shapes that are asked for.
pub mod Lists
pub mod Limits
pub mod ShapesAsked
pub mod Forms
pub mod Rows
pub mod Acts
