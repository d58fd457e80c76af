-- A rule's own words: its line without what stands before them.
use borrow.Author.Rules.{rules}
use Rattle.desk_split.proofs.Callers.{splitting}
use Rattle.clerk_reasons.proofs.Laws.{words_are}
use Rattle.clerk_reasons.proofs.words_from.Goals as goal

pub slice_bounds-rest-end : goal.slice_bounds-rest-end
slice_bounds-rest-end c = search (rules, splitting, words_are)

pub returns : goal.returns
returns c = search (rules, splitting, words_are)
