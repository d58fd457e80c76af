-- What is printed, return by return:
pub mod Check
pub mod Blank
-- What callers use:
pub mod Callers
-- That no second answer fits the contracts:
pub mod Only
