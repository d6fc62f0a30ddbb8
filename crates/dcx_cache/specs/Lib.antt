-- What contracts cite: sessions, the programs and the columns that they keep, and what they answer at a setting.
pub mod Stops
pub mod Programs
pub mod Counts
pub mod InTurn
pub mod Answers
pub mod Columns
pub mod Sessions
pub mod Warm
pub mod Codes
pub mod DivisorLaws
pub mod Laws
