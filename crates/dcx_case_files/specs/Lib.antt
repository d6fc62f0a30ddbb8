-- What contracts cite: when what came is what a case wants.
pub mod Judging
