-- What the calls of the language do.
pub mod Calls
