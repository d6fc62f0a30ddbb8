-- What contracts cite: groups and folds, the largest and the smallest, the running maximum, and their laws.
pub mod Groups
pub mod GroupLaws
pub mod Folds
pub mod FoldLaws
pub mod FoldDualLaws
pub mod Stops
pub mod Sorted
pub mod Largest
pub mod LargestLaws
pub mod LargestDualLaws
pub mod Choices
pub mod Calls
pub mod Running
pub mod RunningLaws
pub mod RunningDualLaws
pub mod OwnLaws
pub mod FractionLaws
