-- The lemmas by which the operations on fractions are exact, in lowest terms, and have one answer.
pub mod Bits
pub mod Signs
pub mod Parts
pub mod Sums
pub mod Products
pub mod Quotients
pub mod Reduced
pub mod Turns
pub mod Orders
pub mod Results
pub mod Texts
pub mod Representable
pub mod Integers
