-- The sizes of lent space that follow from the limits:
pub mod Rooms
