-- reading from left to right, numbers and length-encoded integers
pub mod Reading
pub mod Numbers
pub mod Lenenc
pub mod LenencRead
-- packets, payloads and streams
pub mod Packets
pub mod Payloads
pub mod Due
pub mod Gathering
pub mod Deframing
pub mod Beginnings
pub mod Streams
