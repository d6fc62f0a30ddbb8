-- The lemmas by which a pivot in linked cells is the pivot of the tableau that they show.
pub mod Counts
pub mod RowReads
pub mod Signs
pub mod Mixed
pub mod Divisors
pub mod Cleared
pub mod Formed
pub mod Columns
pub mod Pivoted
pub mod Turned
pub mod Listings
pub mod Lines
pub mod Agreements
pub mod NarrowRows
pub mod Sizes
