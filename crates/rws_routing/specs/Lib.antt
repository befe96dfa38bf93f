pub mod Routings
