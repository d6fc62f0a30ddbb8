-- The lemmas by which the options stand anywhere among the operands, once at most.
pub mod Numerals
pub mod Taking
pub mod NoMinus
pub mod Anywhere
pub mod Once
pub mod Warm
mod Rows
