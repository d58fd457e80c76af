-- The name behind the sign is looked up, and its bytes are told with the sign's.
use borrow.Author.Rules.{rules}
use Rattle.sheet_trigger.proofs.Pieces.{behind_read}
use Rattle.sheet_trigger.proofs.behind_sign.Goals as goal

pub returns : goal.returns
returns c = let h = c.in_ok-p.was in search (rules, behind_read)
