pub mod Probes
pub mod Rounds
pub mod Shown
