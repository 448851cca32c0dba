pub mod Checks
pub mod HeldTogether
pub mod InTurn
pub mod Judged
pub mod Looked
pub mod Rows
