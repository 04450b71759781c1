pub mod Montgomery
pub mod InvertedLists
pub mod CountLaws
pub mod FourLanes
pub mod Checks
pub mod Invertible
pub mod Parts
pub mod Chunks
