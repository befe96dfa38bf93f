pub mod Admissions
pub mod Outside
pub mod Reads
