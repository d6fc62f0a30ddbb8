-- The lemmas by which names have no line feed, reports tell answers, and certificates that are written are accepted.
pub mod Tokens
pub mod Trees
pub mod Settings
pub mod Scripts
pub mod Layouts
pub mod Ends
pub mod Names
pub mod Words
pub mod Answers
pub mod Written
