pub mod Bits
pub mod Members
pub mod Laws
pub mod Callers
pub mod Only
