-- Laws of the outlook, return by return, and for callers:
pub mod Laws
pub mod Callers
-- No second answer fits:
pub mod Only
