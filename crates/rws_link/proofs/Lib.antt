-- a response is read as the login that it was made for
pub mod LoginLemmas
-- pieces, and what a link keeps
pub mod LinkLemmas
-- bytes that come later
pub mod LaterLemmas
