-- The state of a script that is carried out.
pub mod Attributes
pub mod Lists
pub mod Declarations
pub mod Codes
pub mod Kept
pub mod Ends
