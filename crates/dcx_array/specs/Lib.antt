-- What contracts cite: what a call answers, shapes, arrays, operators and picks, and the laws.
pub mod Answers
pub mod Shapes
pub mod Arrays
pub mod Operators
pub mod Picks
pub mod Laws
