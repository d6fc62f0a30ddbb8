-- What contracts cite: calls that sum, place, add and join entries, pairs of entries, and their laws.
pub mod Strided
pub mod StridedLaws
pub mod Folds
pub mod FoldLaws
pub mod Places
pub mod PlaceLaws
pub mod Added
pub mod AddedLaws
pub mod Pairing
pub mod Joined
pub mod JoinedLaws
