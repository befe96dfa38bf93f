-- one statement
pub mod StatementLemmas
-- ids on links
pub mod LinkLemmas
-- statements under their numbers
pub mod SlotLemmas
pub mod PlaceLemmas
pub mod OpenLemmas
pub mod SweepLemmas
-- plain forms
pub mod ReadLemmas
pub mod RunLemmas
-- examples
pub mod ExampleLemmas
