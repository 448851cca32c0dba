pub mod Weekdays
pub mod Lawful
