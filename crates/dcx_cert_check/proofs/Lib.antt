-- The lemmas by which the checks of a certificate tell one thing, and what passes them shows its answer.
pub mod Settled
pub mod Shows
pub mod KeptTables
pub mod Steps
pub mod Demands
pub mod SingleSettled
pub mod Sound
pub mod Given
pub mod Sides
pub mod Below
