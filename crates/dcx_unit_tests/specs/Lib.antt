-- What contracts cite: two small calls of the tests' own, and what generic functions say of any call.
pub mod Hinge
pub mod Uses
