-- What contracts cite of files and their faults.
pub mod Faults
pub mod Files
pub mod Pieces
