-- The lemmas on the values of these calls, and on the steps by which their slopes come from weights.
pub mod KinkSteps
pub mod Values
pub mod ExtremeSteps
