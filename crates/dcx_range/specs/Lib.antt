-- What contracts cite: where a parameter stands, which ones have a range, and the range that is told.
pub mod Standing
pub mod Coefficients
pub mod Parameters
pub mod Stops
pub mod Operations
pub mod Interval
pub mod Range
pub mod Laws
