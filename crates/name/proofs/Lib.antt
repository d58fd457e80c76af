-- Tables searched, names packed and spelt:
pub mod Laws
pub mod Packs
pub mod Spelt
-- What a caller may conclude from the answers, and of tables:
pub mod Callers
pub mod Tables
-- The readers of names:
pub mod Pieces
-- No second answer fits:
pub mod Only
