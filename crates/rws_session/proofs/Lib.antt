-- what the client's side says, and holds
pub mod FrontLemmas
-- what code makes of its state is the state of the record with one item more
pub mod BeginLemmas
pub mod MirrorLemmas
-- each kind of step makes the item that is due
pub mod TryLemmas
-- a whole turn
pub mod TurnLemmas
-- the worker's answer
pub mod AnswerLemmas
-- and what lasts where memory was wanting
pub mod BreakLemmas
-- what it leaves
pub mod BoundLemmas
