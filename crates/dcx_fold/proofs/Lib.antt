-- The lemmas on values, graphs and slopes of folds, of the largest and smallest, and of the running maximum.
pub mod FoldValues
pub mod StepLists
pub mod FoldSlopes
pub mod FoldShapes
pub mod FoldGraphs
pub mod FallingLists
pub mod LargestSteps
pub mod LargestCalls
pub mod RunningSteps
pub mod RunningCalls
pub mod Choices
