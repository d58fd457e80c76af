-- Laws of the doors for other languages, return by return:
pub mod Laws
pub mod Only
