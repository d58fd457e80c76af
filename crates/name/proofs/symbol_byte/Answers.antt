-- `name::symbol_byte` answers the byte of a symbol: a letter, a digit, or 0 where the number is none.
use borrow.Author.Rules.{rules}
use Rattle.name.proofs.Spelt.{symbols}
use Rattle.name.proofs.symbol_byte.Goals as goal

pub returns-in-1-to-26 : goal.returns-in-1-to-26
returns-in-1-to-26 c = search (rules, symbols)

pub returns-in-27-to-36 : goal.returns-in-27-to-36
returns-in-27-to-36 c = search (rules, symbols)

pub returns-in_default : goal.returns-in_default
returns-in_default c = search (rules, symbols)

pub returns-in_default-2 : goal.returns-in_default-2
returns-in_default-2 c = search (rules, symbols)
