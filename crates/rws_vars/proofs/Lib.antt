-- reductions as lists
pub mod ReductionLemmas
-- the map that a reduction leaves
pub mod MapLemmas
-- what assignments reads
pub mod CollectorLemmas
-- the tree of the settings as a map
pub mod SettingsLemmas
