-- cursors: where they stand in their list, and what becomes of them
pub mod CursorLemmas
-- histories: the mark and the cursors stay places in the list or its end
pub mod PlaceLemmas
-- laws: cursors by link, places by serial numbers
pub mod LinkLemmas
pub mod SerialLemmas
pub mod StepLemmas
