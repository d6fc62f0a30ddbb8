-- The syntax trees of a script, how each is spelled, and which of them a tree of the code is.
pub mod Terminal
pub mod Expressions
pub mod Statements
pub mod View
