-- How calls of the language are given their arguments, and what a `for` goes through.
pub mod Table
pub mod Fits
pub mod Arguments
pub mod Turns
pub mod Firsts
pub mod Codes
pub mod Seen
pub mod View
