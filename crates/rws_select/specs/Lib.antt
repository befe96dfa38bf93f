pub mod Choice
pub mod Scored
