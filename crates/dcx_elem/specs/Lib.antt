-- What contracts cite: kinks and extremes entry by entry, their rows and their laws.
pub mod Rows
pub mod Kinks
pub mod KinkLaws
pub mod KinkDualLaws
pub mod Extremes
pub mod ExtremeLaws
pub mod ExtremeDualLaws
pub mod OwnLaws
pub mod FractionLaws
pub mod Calls
