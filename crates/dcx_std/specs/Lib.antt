-- What contracts cite: whole rows, the columns, the scaled program, and what its answers show of the rows.
pub mod Size
pub mod Multiples
pub mod WholeRows
pub mod Columns
pub mod GivenRows
pub mod IntegerRows
pub mod ScaledProgram
pub mod Solutions
pub mod Answers
pub mod OneProgram
