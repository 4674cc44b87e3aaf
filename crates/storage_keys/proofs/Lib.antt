pub mod KeyLemmas
pub mod OperandLemmas
pub mod ByteLemmas
pub mod LentLemmas
