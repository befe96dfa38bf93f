mod Exchanges
pub mod Histories
mod Moves
mod Numbers
mod Packs
mod Parts
mod Prefixes
mod Standing
mod Together
