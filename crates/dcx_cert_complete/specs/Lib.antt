-- What the laws of this crate cite.
pub mod Families
pub mod Bounded
pub mod Rows
pub mod Programs
pub mod Certified
pub mod Laws
