-- What contracts cite: arrays under names, and what a put does to them.
pub mod Pairs
pub mod Laws
