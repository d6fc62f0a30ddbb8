-- The lemmas by which each node is formed of its arguments' forms, and given back behind its last use.
pub mod Positions
pub mod AtNode
pub mod Numbers
pub mod LastUses
pub mod GivenBack
pub mod Leaves
pub mod Gives
pub mod LinearNodes
pub mod Auxiliaries
pub mod AtomNodes
pub mod PairNodes
pub mod GraphRows
pub mod Corner
pub mod Local
pub mod Standings
pub mod OneMore
pub mod OneForming
