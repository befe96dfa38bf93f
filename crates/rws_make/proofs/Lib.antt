-- What makers did.
pub mod MakerLemmas
