pub mod Days
pub mod Laws
pub mod Moments
pub mod Refusals
pub mod Summer
