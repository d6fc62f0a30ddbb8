-- What the grammar sees in tokens, what reading by one token gives, and what parsing a file answers.
pub mod Role
pub mod Terminals
pub mod Words
pub mod Reading
pub mod Moves
pub mod Steps
pub mod Leaves
pub mod Lines
pub mod Whole
pub mod Parses
pub mod Laws
