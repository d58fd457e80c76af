-- Lists: their members, those that go up, and those at the start of an array.
pub mod Members
pub mod Ascending
pub mod Padded
