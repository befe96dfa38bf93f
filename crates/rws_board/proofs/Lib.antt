-- Lists and their parts.
pub mod Fronts
-- Boards.
pub mod JoinLemmas
pub mod ListBoardLemmas
