-- What the code answers for a card that the meaning reads.
use Rattle.std.specs.Prelude.{Result}
use Rattle.meaning.specs.Refusal.{Answer}
use Rattle.meaning.specs.Sheet.{Heads}
use Rattle.meaning.specs.Card as M
use Rattle.theory.specs.Reading.Piece.{as_paper}
use Rattle.reply.specs.declared.Wrong.{Wrong}
use Rattle.reply.specs.Faults.{wrong_of}
use Rattle.case_tables.specs.declared.Card.{Card}
use Rattle.case_tables.specs.Cards.{as_card}

abbrev pub as_card_read : Heads → Answer M.Card → Result Card Wrong
as_card_read hd = as_paper (as_card hd) (λ n p l. wrong_of n l)
