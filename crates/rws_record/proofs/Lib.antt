-- how a record, and a run, goes on
pub mod LinkedLemmas
pub mod WithoutLemmas
pub mod StepLemmas
pub mod RestLemmas
pub mod OpeningLemmas
-- how far a link has played the history
pub mod HistoryLemmas
-- how long that may be
pub mod RoomLemmas
pub mod EntryLemmas
-- the law that events determine the run
pub mod OneRunLemmas
-- want of memory ends a session
pub mod WantLemmas
-- runs over given events, computed
pub mod WorkedRuns
pub mod LoginRuns
pub mod RouteRuns
pub mod CausalRuns
pub mod HistoryRuns
pub mod TransactionRuns
pub mod StatementRuns
-- the laws on the records in a run
pub mod OrderLemmas
pub mod RecordLemmas
pub mod LinkLemmas
-- what the worker's loads count
pub mod LoadLemmas
