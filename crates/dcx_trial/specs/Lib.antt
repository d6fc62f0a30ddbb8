-- What contracts cite: the text of the made-up script.
pub mod Trial
