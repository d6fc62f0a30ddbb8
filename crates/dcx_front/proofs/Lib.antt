-- The lemmas by which the door and its laws are proved.
pub mod OneCheck
pub mod OneAnswer
pub mod OneVerdict
