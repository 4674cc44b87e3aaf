pub mod CcwLemmas
