-- What contracts cite: the words that are plain forms, where the options may stand, and what they ask for.
pub mod Commands
pub mod Around
pub mod Asked
pub mod Laws
