pub mod Boards
pub mod Faults
pub mod Files
pub mod InMemory
pub mod Put
pub mod Streams
