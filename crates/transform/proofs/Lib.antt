-- Laws that the proofs of several functions cite.
pub mod Halves
pub mod WordLaws
pub mod Partly
pub mod Fours
pub mod BlockLoops
pub mod Eights
pub mod Pairs
pub mod Filling
pub mod Inverting
pub mod Layers
pub mod HalfBlocks
pub mod SmallSizes
pub mod Whole
pub mod Scaling
pub mod InverseLayers
pub mod Steps
pub mod Calls
