-- the values of a record as one, and how an item moves them
pub mod State
pub mod MirrorLemmas
-- the laws on records that agree
pub mod AgreementLemmas
pub mod OutLemmas
pub mod TurnLemmas
-- the law on a client's bytes
pub mod HushLemmas
pub mod LaterLemmas
pub mod ClientLemmas
pub mod PartingLemmas
-- the law on a server's
pub mod StepsLemmas
pub mod LiveLemmas
pub mod PartLemmas
pub mod ServerLemmas
pub mod LinkTurnLemmas
-- small cuttings, computed
pub mod WorkedCuts
-- any number of pieces
pub mod CutLemmas
-- pieces, and what else is heard
pub mod LinkCutLemmas
pub mod SparingLemmas
pub mod LinkWaitLemmas
pub mod ClientWaitLemmas
pub mod WorkedWaits
