-- What contracts cite: entries that keep what is demanded, points of the domain, and the laws.
pub mod Entries
pub mod Points
pub mod Laws
