-- `name::name_piece` answers as the meaning reads a name: each refusal is a part of a good name that fails, and behind all of them the name is good.
use borrow.Author.Rules.{rules}
use Rattle.name.proofs.Pieces.{name_piece_returns}
use Rattle.name.proofs.name_piece.Goals as goal

pub returns-in_err-first : goal.returns-in_err-first
returns-in_err-first c = search (rules, name_piece_returns)

pub returns-then-not-is_letter : goal.returns-then-not-is_letter
returns-then-not-is_letter c = search (rules, name_piece_returns)

pub returns-then-bytes-gt-NAME_BYTES : goal.returns-then-bytes-gt-NAME_BYTES
returns-then-bytes-gt-NAME_BYTES c = search (rules, name_piece_returns)

pub returns-then-is_reserved : goal.returns-then-is_reserved
returns-then-is_reserved c = search (rules, name_piece_returns)

pub returns : goal.returns
returns c = search (rules, name_piece_returns)
