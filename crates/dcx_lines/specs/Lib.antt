-- The texts that reports and certificates share.
pub mod Lines
pub mod Pieces
pub mod Reading
pub mod Shown
