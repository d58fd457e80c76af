-- A case that was taken, when each request is, and what is refused with which number.
pub mod Cases
pub mod Numbers
pub mod Taken
