pub mod Judging
pub mod Walking
pub mod First
