-- What contracts on certificates cite: formats, outlines, and checks with the faults that tell where they fail.
pub mod Formats
pub mod Outlines
pub mod Shown
pub mod Checks
pub mod Laws
