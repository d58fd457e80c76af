-- Laws in the form in which the functions' answers need them: texts, numbers, counts and single lines put into lent space:
pub mod Laws
-- No second answer fits:
pub mod Only
