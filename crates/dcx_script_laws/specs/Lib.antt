-- Laws about the meaning of scripts: what binds names, other names, differences, prints and nodes.
pub mod Renamed
pub mod Names
pub mod Bindings
pub mod Trees
pub mod Printing
pub mod Differences
pub mod Numbers
