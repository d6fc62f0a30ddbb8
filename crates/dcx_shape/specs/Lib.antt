-- What contracts cite: sides, shapes and places, broadcasting, products, reshapes, slices and indices, the laws.
pub mod Sides
pub mod Shape
pub mod Places
pub mod Broadcast
pub mod Product
pub mod Reshape
pub mod Slice
pub mod Run
pub mod Index
pub mod Laws
