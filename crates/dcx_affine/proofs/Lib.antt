-- The lemmas on 1 / n, on shapes of products and of joined arrays, and on lines of arguments.
pub mod Reciprocals
pub mod Products
pub mod Lines
pub mod Stacks
