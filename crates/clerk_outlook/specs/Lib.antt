-- What is printed for a case, on its tables:
pub mod Texts
