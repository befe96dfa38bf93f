pub mod Trace
pub mod Tracing
pub mod Asking
pub mod Words
