-- The syntax tree of the made-up script, that it is what is read, what it stands for, and the sizes that are asked for.
pub mod Tree
pub mod Sizes
pub mod Read
pub mod Meaning
