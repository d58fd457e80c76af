pub mod Exits
pub mod Laws
pub mod Callers
pub mod Only
