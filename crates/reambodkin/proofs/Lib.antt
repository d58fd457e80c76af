-- Laws of the doors, return by return:
pub mod Laws
-- What is returned for any answer, and calls of the doors and of the functions behind the desk and the clerk's words, as they are declared:
pub mod Script
pub mod Calls
pub mod Outputs
-- What the desk prints, of what the doors return:
pub mod Desk
-- The page to read: what document 01 demands, of the code:
pub mod Demands
pub mod Only
