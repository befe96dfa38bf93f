-- what came of a client, and of a server on a link
pub mod Client
pub mod Servers
-- what has set a session on a link
pub mod History
-- what a read is to see
pub mod Reads
-- the laws
pub mod Causes
pub mod Answers
pub mod Laws
