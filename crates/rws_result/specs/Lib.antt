-- single payloads, and the whole
pub mod Cells
pub mod ResultSets
pub mod OneValues
-- what calls answer
pub mod Found
pub mod Answers
