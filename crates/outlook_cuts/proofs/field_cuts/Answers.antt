use borrow.Author.Rules.{rules}
use Rattle.outlook_cuts.proofs.Laws.{gathering}
use Rattle.outlook_cuts.proofs.field_cuts.Goals as goal

pub loop-i-init : goal.loop-i-init
loop-i-init c = search (rules, gathering)

pub add_word-n-requires : goal.add_word-n-requires
add_word-n-requires c = search (rules, gathering)

pub loop-i-preserved : goal.loop-i-preserved
loop-i-preserved c = search (rules, gathering)
