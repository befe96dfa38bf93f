-- laws on the steps of a front
pub mod OrderLemmas
pub mod LoginLemmas
pub mod PieceLemmas
pub mod NumberLemmas
