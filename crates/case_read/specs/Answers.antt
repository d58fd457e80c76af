-- What the code answers for the three papers that the meaning reads.
use Rattle.std.specs.Prelude.{ℕ}
use Rattle.meaning.specs.Refusal.{Answer, taken, refused}
use Rattle.meaning.specs.Doors as D
use Rattle.case_tables.specs.Cards.{no_card, as_card, no_happening, as_happening}
use Rattle.step_sheet.specs.Answers.{refused_sheet, taken_sheet}
use Rattle.case_read.specs.declared.Case.{Case}

-- a refusal has its number, paper and line, and nothing else
abbrev pub refused_case : ℕ → ℕ → ℕ → Case
refused_case n p l = record { number = n; paper = p; line = l; sheet = refused_sheet n l; card = no_card; happening = no_happening }

-- the sheet with its testing order, and the card and the event line under what stands above its rules
abbrev pub taken_case : D.Case → Case
taken_case k = record {
  number = 0;
  paper = 0;
  line = 0;
  sheet = taken_sheet (record { sheet = k.sheet; order = k.order });
  card = as_card k.sheet.heads k.card;
  happening = as_happening k.sheet.heads k.happening;
}

abbrev pub as_case : Answer D.Case → Case
as_case (taken k) = taken_case k
as_case (refused n p l) = refused_case n p l
