-- What contracts cite: the text of a certificate, and its laws.
pub mod Written
pub mod Laws
