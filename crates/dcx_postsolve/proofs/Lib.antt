-- The lemmas by which the functions and the laws of this crate are proved.
pub mod Lists
pub mod Fractions
pub mod ColumnNumbers
pub mod ColumnParts
pub mod Arrays
pub mod Names
pub mod DualSteps
pub mod DualLaws
pub mod Carrying
pub mod Alike
pub mod Rows
pub mod CarryingLawsHold
