-- the state of a transaction
pub mod Transactions
-- a transaction on its link
pub mod OnLinks
