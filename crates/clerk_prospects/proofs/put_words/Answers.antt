use borrow.Author.Rules.{rules}
use Rattle.clerk_prospects.proofs.Laws.{words}
use Rattle.clerk_prospects.proofs.put_words.Goals as goal

pub put_word-to-requires : goal.put_word-to-requires
put_word-to-requires c = search (rules, words)

pub loop-i-preserved : goal.loop-i-preserved
loop-i-preserved c = search (rules, words)

pub returns : goal.returns
returns c = search (rules, words)
