-- Of a sheet that was read: its conditions fit the machine, and their words the array.
pub mod Fitting
-- Of one that is accepted:
pub mod Sheets
-- A refused one:
pub mod Laws
-- No second answer fits:
pub mod Only
