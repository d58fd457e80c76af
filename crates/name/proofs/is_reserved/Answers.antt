-- `name::is_reserved` answers whether the number is that of a reserved word: each constant is the number that the definition gives a word.
use borrow.Author.Rules.{rules}
use Rattle.name.proofs.Packs.{reserved_is}
use Rattle.name.proofs.is_reserved.Goals as goal

pub returns : goal.returns
returns c = search (rules, reserved_is)
