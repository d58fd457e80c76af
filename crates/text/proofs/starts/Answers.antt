-- `text::starts` answers whether the bytes begin with the text, as the library does.
use borrow.Author.Rules.{rules}
use Rattle.text.proofs.Laws.{begins_library}
use Rattle.text.proofs.starts.Goals as goal

pub returns : goal.returns
returns c = search (rules, begins_library)
