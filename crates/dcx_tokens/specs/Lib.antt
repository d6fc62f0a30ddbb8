-- What contracts cite: texts and places, each kind of token, lines and brackets, readings, and the laws.
pub mod File
pub mod Front
pub mod Laws
pub mod Layout
pub mod Lexeme
pub mod Lexed
pub mod Number
pub mod Position
pub mod Quoted
pub mod Reading
pub mod State
pub mod View
pub mod Word
