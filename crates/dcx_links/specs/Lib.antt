-- What the contracts of this crate cite.
pub mod Lines
pub mod Cells
pub mod Matrix
pub mod Walks
pub mod Views
pub mod Laws
pub mod Entries
