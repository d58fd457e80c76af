-- Laws of the reader, return by return, and for its callers:
pub mod Laws
pub mod Callers
pub mod Only
