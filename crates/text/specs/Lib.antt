-- What the code answers for what the meaning reads:
pub mod Pieces
