-- What contracts cite: what the bytes of a script give, and that they give one answer; what a check tells.
pub mod Checks
pub mod Accepts
pub mod OneAnswer
