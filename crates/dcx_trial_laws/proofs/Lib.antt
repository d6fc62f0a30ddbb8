-- The lemmas by which the script is read piece by piece, and by which its lines are carried out, one after the other.
pub mod Numbers
pub mod Pieces
pub mod Tests
pub mod Steps
pub mod Arrives
pub mod Script
pub mod Lists
pub mod Parsed
pub mod Accepted
mod Acts
mod Calls
mod Minimizes
mod Judged
mod Grades
mod Later
mod Graded
mod Declared
mod Objective
mod Dpp
pub mod Sized
mod Does
mod Room
mod Residuals
mod Vectors
pub mod Carried
