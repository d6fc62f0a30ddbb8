-- The lemmas by which entries are formed one after the other, in one way, and are worth what they should be.
pub mod AtomEntries
pub mod Each
pub mod EntryValues
pub mod Folds
pub mod OneAnswer
pub mod OwnRows
pub mod PairEntries
pub mod Past
pub mod Places
pub mod Told
