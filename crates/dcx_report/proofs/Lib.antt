-- The lemmas by which a report tells the answers of its run.
pub mod AnswerReading
pub mod Negation
pub mod Numbered
pub mod OneLine
pub mod Pairs
pub mod SameReport
