-- What the clerk is told: reasons, the check of a sheet with its circle, the blank card, and what may still come, status by status.
pub mod Readout
pub mod Checks
pub mod Blank
pub mod Prospects
