pub mod Changes2024
pub mod Fields
pub mod Labels
pub mod Started
pub mod Summer
pub mod Table
pub mod Theorems
pub mod Years
