-- What the laws cite: right answers, points and boxes, trees, ranges, sets of constraints, rays and steepness; and which nodes reach no
-- variable.
pub mod Answers
pub mod Points
pub mod Boxes
pub mod Trees
pub mod WholeAnswers
pub mod Ranges
pub mod ConstraintSets
pub mod Filters
pub mod Fixed
pub mod Steepness
pub mod Rays
pub mod RayLaws
pub mod Laws
