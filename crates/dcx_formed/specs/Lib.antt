-- What the laws cite: the forms of formed nodes, and of which unknowns and parameters they speak.
pub mod Forms
pub mod Within
pub mod Laws
