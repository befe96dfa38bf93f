-- What boards give.
pub mod OutsideLemmas
