-- what a worker's work says, whatever the board
pub mod WorkLemmas
-- how much of a script was read and printed
pub mod ScriptLemmas
-- how the trace of an input ends
pub mod EndLemmas
pub mod ClosingLemmas
-- what is answered to words
pub mod AskingLemmas
