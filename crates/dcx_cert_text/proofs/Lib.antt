-- The lemmas by which the text of a certificate is read back.
pub mod Joined
pub mod Names
pub mod Parts
pub mod Bodies
pub mod OneText
pub mod Fronts
