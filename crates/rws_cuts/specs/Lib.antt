-- where a login or a reply begins and ends
pub mod Exchanges
-- what a session does from one input on
pub mod Turns
-- when two records go on alike
pub mod Agreement
-- the laws
pub mod Laws
-- and those about pieces and what else is heard
pub mod LinkCuts
