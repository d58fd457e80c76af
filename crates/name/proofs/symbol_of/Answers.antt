-- `name::symbol_of` answers the symbol of a name byte, which is below 38: a letter by the one difference, a digit by the other.
use borrow.Author.Rules.{rules}
use Rattle.name.proofs.Packs.{symbol_high, symbol_low}
use Rattle.name.proofs.symbol_of.Goals as goal

pub returns-in-97-to-255 : goal.returns-in-97-to-255
returns-in-97-to-255 c = search (rules, symbol_high)

pub returns-in_default : goal.returns-in_default
returns-in_default c = search (rules, symbol_low)
