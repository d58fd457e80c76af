-- The parts of the table are the tables of fields, events and statuses; where the rules are refused, the words are cleared.
use borrow.Author.Rules.{rules}
use Rattle.sheet_rules.proofs.Whole.{parted}
use Rattle.sheet_rules.proofs.read_rules.Goals as goal

pub read_lines-r-requires : goal.read_lines-r-requires
read_lines-r-requires c = search (rules, parted)

pub returns-in_default-clause-space : goal.returns-in_default-clause-space
returns-in_default-clause-space c = search (rules, parted)

pub returns-clause-space : goal.returns-clause-space
returns-clause-space c = search (rules, parted)
