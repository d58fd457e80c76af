use borrow.Author.Rules.{rules}
use Rattle.sheet_read.proofs.Whole.{reading}
use Rattle.sheet_read.proofs.read_sheet.Goals as goal

pub returns-then-s-gt-SHEET_BYTES : goal.returns-then-s-gt-SHEET_BYTES
returns-then-s-gt-SHEET_BYTES c = search (rules, reading)

pub returns-in_err-above : goal.returns-in_err-above
returns-in_err-above c = search (rules, reading)

pub read_below-requires : goal.read_below-requires
read_below-requires c = search (rules, reading)

pub returns : goal.returns
returns c = search (rules, reading)
