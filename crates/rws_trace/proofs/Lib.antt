-- Lists and their parts.
pub mod Fronts
pub mod Splits
-- Lines and events.
pub mod Computed
pub mod Feeds
pub mod Numbers
pub mod Passing
pub mod WholeLines
-- Printed lines.
pub mod Texts
-- Reading.
pub mod AheadLemmas
pub mod ReadsLemmas
-- Boards.
pub mod ScriptBoardLemmas
pub mod ScriptCalls
