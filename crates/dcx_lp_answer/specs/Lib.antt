-- What contracts cite: notes of rows, what makes an answer right, and the multipliers that it shows.
pub mod Notes
pub mod Right
pub mod Multipliers
