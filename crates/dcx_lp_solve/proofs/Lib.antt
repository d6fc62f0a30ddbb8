-- The lemmas by which a run on rows that ends, by Bland's rule or from listed columns, gives one right answer, or one stop.
pub mod Counts
pub mod Right
pub mod Ends
pub mod OneReading
pub mod OneSolution
pub mod WarmRuns
