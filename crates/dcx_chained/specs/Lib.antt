-- What the contracts of this crate cite.
pub mod Rows
pub mod NewRow
pub mod Tables
pub mod Agreement
pub mod Narrow
