-- digests mixed with a mask, and compared
pub mod MixingLemmas
pub mod ComparingLemmas
