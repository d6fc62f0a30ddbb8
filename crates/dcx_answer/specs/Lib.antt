-- What the types cite: which stops name a node of the problem.
pub mod NodeStops
