pub mod AccessLemmas
pub mod ListLemmas
pub mod PieceLemmas
pub mod Numbers
