pub mod Histories
pub mod Rising
mod Rounds
