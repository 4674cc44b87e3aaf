pub mod SchibLemmas
pub mod Written
pub mod PmcwWritten
pub mod PmcwModifying
pub mod PmcwMarking
