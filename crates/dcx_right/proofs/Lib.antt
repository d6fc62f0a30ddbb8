-- The lemmas by which optima are least, trees show whole answers, filter's sets are minimal, and rays show problems unbounded.
pub mod Optima
pub mod Boxes
pub mod Trees
pub mod ConstraintSets
pub mod Calls
pub mod Told
pub mod Along
pub mod Rays
pub mod Values
pub mod TreeValues
pub mod Reached
pub mod RayLawsHold
