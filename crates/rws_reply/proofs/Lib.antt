-- what payloads are
pub mod PayloadLemmas
-- the machine accepts the grammar, and nothing else
pub mod RunLemmas
pub mod RepliesRun
pub mod RunsAreReplies
-- what a tracker says
pub mod ProgressLemmas
pub mod RoleLemmas
-- the client's form
pub mod FitLemmas
pub mod ClientLemmas
