-- What the code answers for the sheet that the meaning accepts.
use Rattle.std.specs.Prelude.{[], ℕ, length, replicate}
use Rattle.meaning.specs.Refusal.{Answer, taken, refused}
use Rattle.meaning.specs.Doors as D
use Rattle.theory.specs.Lists.Padded.{padded}
use Rattle.limits.specs.Sizes.{word_room}
use Rattle.sheet_tables.specs.Heads.{as_heads, blank}
use Rattle.sheet_tables.specs.Rules.{all_words}
use Rattle.graph_tests.specs.Answers.{rows_of}
use Rattle.step_plan.specs.Plan.{plan_for}
use Rattle.step_sheet.specs.declared.Accepted.{Accepted}

-- a refusal has its number and line, and nothing else
abbrev pub refused_sheet : ℕ → ℕ → Accepted
refused_sheet n l = record { number = n; line = l; heads = blank; words = replicate word_room 0; top = 0; plan = plan_for [] [] }

-- the tables, the words of the conditions, and the tests listed by the testing order
abbrev pub taken_sheet : D.Accepted → Accepted
taken_sheet a = record {
  number = 0;
  line = 0;
  heads = as_heads a.sheet.heads;
  words = padded word_room 0 (all_words a.sheet.rules);
  top = length (all_words a.sheet.rules);
  plan = plan_for (rows_of a.sheet) a.order;
}

abbrev pub as_accepted : Answer D.Accepted → Accepted
as_accepted (taken a) = taken_sheet a
as_accepted (refused n p l) = refused_sheet n l
