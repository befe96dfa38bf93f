pub mod Cursors
pub mod Histories
pub mod Serials
