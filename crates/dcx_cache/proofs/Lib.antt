-- The lemmas by which a session's answers, fresh and warm, are right, and one at each setting.
pub mod Arrays
pub mod Maps
pub mod Kept
pub mod Counting
pub mod InTurn
pub mod Answered
pub mod Stopped
pub mod ScaledRows
pub mod OneEnd
pub mod Agreeing
pub mod Basics
pub mod WarmRuns
pub mod Divisors
pub mod DivisorLawsHold
