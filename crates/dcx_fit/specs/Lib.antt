-- What contracts cite: which settings fit, the stop that comes first, and the laws.
pub mod Fit
pub mod Faults
pub mod Laws
