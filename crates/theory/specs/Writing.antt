-- What is written: a card is read back, so a step's result is again accepted; every card read is so written, and every event line. Last,
-- how texts are put into lent space, piece by piece.
pub mod ReadBack
pub mod CardText
pub mod EventText
pub mod Rows
pub mod Lent
