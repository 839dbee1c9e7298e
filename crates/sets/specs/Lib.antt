-- `Sets` has sets of places as mathematics, `PlaceSets` sets in two words, `Members` the walk over one.
pub mod Sets
pub mod PlaceSets
pub mod Members
