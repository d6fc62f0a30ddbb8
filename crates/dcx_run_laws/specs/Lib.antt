-- What contracts cite: names on one line, what reports tell of answers, and what is made of certificates that are written.
pub mod Names
pub mod Answers
pub mod Written
