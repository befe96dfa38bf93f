pub mod Tallies
pub mod Stepping
pub mod Standing
pub mod InTurn
pub mod Telling
pub mod Working
