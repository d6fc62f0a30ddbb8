-- The lemmas by which a ray that passes its checks shows the problem to be unbounded.
pub mod Settled
pub mod Shown
pub mod Known
pub mod Steep
pub mod Ready
pub mod Tables
pub mod Applied
pub mod Below
pub mod Turns
