-- What contracts cite: the settings that a command asks for, and their laws.
pub mod Settings
pub mod Laws
