-- What contracts cite: the lines of a certificate, their templates, and where reading stops.
pub mod CertText
pub mod Forms
pub mod Parts
pub mod Templates
