-- The lemmas by which a setting fits or has one first misfit, and what fitting means to the problem.
pub mod Names
pub mod Misfits
pub mod Each
pub mod First
pub mod Fitting
pub mod Divisors
