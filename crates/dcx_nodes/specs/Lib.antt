-- What contracts cite: what must be given of nodes, what is formed of each, and where it is last asked for.
pub mod Marks
pub mod Given
pub mod Formed
pub mod Numbers
pub mod Uses
pub mod SoFar
