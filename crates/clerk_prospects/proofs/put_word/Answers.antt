-- The word that the lowest bits tell.
use borrow.Author.Rules.{rules}
use Rattle.clerk_prospects.proofs.Laws.{wording}
use Rattle.clerk_prospects.proofs.put_word.Goals as goal

pub line_at-requires : goal.line_at-requires
line_at-requires c = search (rules, wording)

pub shape_of-out-then-all-eq1 : goal.shape_of-out-then-all-eq1
shape_of-out-then-all-eq1 c = search (rules, wording)

pub returns-then-all-eq1 : goal.returns-then-all-eq1
returns-then-all-eq1 c = search (rules, wording)

pub line_at-requires-then-some-eq1 : goal.line_at-requires-then-some-eq1
line_at-requires-then-some-eq1 c = search (rules, wording)

pub shape_of-out-then-some-eq1 : goal.shape_of-out-then-some-eq1
shape_of-out-then-some-eq1 c = search (rules, wording)

pub returns-then-some-eq1 : goal.returns-then-some-eq1
returns-then-some-eq1 c = search (rules, wording)

pub line_at-requires-2 : goal.line_at-requires-2
line_at-requires-2 c = search (rules, wording)

pub shape_of-out : goal.shape_of-out
shape_of-out c = search (rules, wording)

pub returns : goal.returns
returns c = search (rules, wording)
