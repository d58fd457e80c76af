-- The texts that the desk program prints for a case, on its tables:
pub mod Texts
