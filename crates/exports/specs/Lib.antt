-- How a reply is told in lent places:
pub mod Exports
