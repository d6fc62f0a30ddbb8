-- What a script does under other names: the lemmas, in the order of what they speak of.
pub mod Entries
pub mod Nodes
pub mod Acts
pub mod Pushes
pub mod Declarations
pub mod Operators
pub mod Calls
pub mod Expressions
pub mod Lines
pub mod Exchange
pub mod Works
pub mod Problems
