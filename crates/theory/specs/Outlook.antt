-- Cuts and parts, fillings that are alike, and the outlook's list.
pub mod Cuts
pub mod Alike
pub mod List
