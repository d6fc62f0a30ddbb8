-- What contracts cite: judgements and curvatures of nodes, sites that break a rule, verdicts and acceptance.
pub mod Judgements
pub mod Curvatures
pub mod Sites
pub mod Verdicts
pub mod Accepted
