-- What contracts cite: where rows come from, the weights of atoms, and the certificate of an answer.
pub mod Origins
pub mod Weights
pub mod Built
pub mod Laws
