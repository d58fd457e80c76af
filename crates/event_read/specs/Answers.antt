-- What the code answers for an event line that the meaning reads.
use Rattle.std.specs.Prelude.{Result}
use Rattle.meaning.specs.Refusal.{Answer}
use Rattle.meaning.specs.Sheet.{Heads}
use Rattle.meaning.specs.Card as M
use Rattle.theory.specs.Reading.Piece.{as_paper}
use Rattle.reply.specs.declared.Wrong.{Wrong}
use Rattle.reply.specs.Faults.{wrong_of}
use Rattle.case_tables.specs.declared.Happening.{Happening}
use Rattle.case_tables.specs.Cards.{as_happening}

abbrev pub as_event_read : Heads → Answer M.Happening → Result Happening Wrong
as_event_read hd = as_paper (as_happening hd) (λ n p l. wrong_of n l)
