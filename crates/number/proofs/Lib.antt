-- What callers use, laws of runs of digits, of numbers and of values:
pub mod Callers
pub mod Laws
pub mod Numbers
pub mod Entries
pub mod Ends
pub mod Only
