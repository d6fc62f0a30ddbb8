-- What contracts cite: the steepness of nodes along a ray, and the checks of a ray.
pub mod Steepness
pub mod Rays
pub mod Laws
