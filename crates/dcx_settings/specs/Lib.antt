-- What contracts cite: the grammar of settings, reading token by token, what they mean, files, and the laws.
pub mod Terminal
pub mod Grammar
pub mod Reading
pub mod Machine
pub mod Meaning
pub mod Steps
pub mod File
pub mod Laws
