-- What contracts cite: making listed columns basic, the dual simplex, and the whole warm run.
pub mod Install
pub mod Dual
pub mod Warm
pub mod Laws
